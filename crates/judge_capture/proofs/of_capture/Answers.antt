-- `of_capture` meets its contract.
use native.Mathlib.Omega.{arith}
use Rattle.bits.proofs.Octets.{octets-all}
use Rattle.state.specs.Layout.{setup_of}
use Rattle.judge_capture.proofs.Calls.{no_capture, passed, failed}
use Rattle.judge_capture.proofs.of_capture.Goals as goal

pub returns-in_default : goal.returns-in_default
returns-in_default c = (no_capture (setup_of c.args.state.now) c.args.capture.now c.in_default.ensures, omega arith)

pub returns-in-Ok : goal.returns-in-Ok
returns-in-Ok c =
    let a = c.args in
    (passed (setup_of a.state.now) a.capture.now c.in-Some.from (octets-all a.capture.now (λ i. omega (arith, c.type_inv.capture i))) c.in-Some.ensures c.feed.new.table c.in-Ok.ensures, omega arith)

pub returns-in-Err : goal.returns-in-Err
returns-in-Err c =
    let a = c.args in
    failed (setup_of a.state.now) a.capture.now c.in-Some.from (octets-all a.capture.now (λ i. omega (arith, c.type_inv.capture i))) c.in-Some.ensures _ c.feed.new.table c.in-Err.ensures
