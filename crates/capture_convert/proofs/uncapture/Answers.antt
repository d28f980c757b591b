-- `uncapture` meets its contract.
use mathlib.Core.Path.{refl}
use native.Mathlib.Omega.{arith}
use Rattle.capture_convert.proofs.Calls.{no_capture, size-there, not_carried, short-log, small-log, enough, printed}
use Rattle.capture_convert.proofs.uncapture.Goals as goal

pub returns-in_default-clause-out_after : goal.returns-in_default-clause-out_after
returns-in_default-clause-out_after c = no_capture c.args.capture.now c.args.out.now c.in_default.ensures

pub measure-requires : goal.measure-requires
measure-requires c =
    let p = c.in-Some.ensures in
    omega (arith, size-there c.args.capture.now c.in-Some.from p, p.few)

pub returns-in_default-measure-clause-out_after : goal.returns-in_default-measure-clause-out_after
returns-in_default-measure-clause-out_after c =
    let w = c.args.capture.now in
    let p = c.in-Some.ensures in
    not_carried w c.args.out.now _ p _ refl (size-there w _ p) c.in_default-measure.ensures

pub returns-then-out-len-clause-out_after : goal.returns-then-out-len-clause-out_after
returns-then-out-len-clause-out_after c =
    let w = c.args.capture.now in
    let p = c.in-Some.ensures in
    small-log w c.args.out.now _ p _ refl (size-there w _ p) c.in-Ok.len c.in-Ok.ensures c.if-out-len.true

pub lines-requires : goal.lines-requires
lines-requires c =
    let w = c.args.capture.now in
    let p = c.in-Some.ensures in
    enough w c.args.out.now _ p _ refl (size-there w _ p) c.in-Ok.len c.in-Ok.ensures c.if-out-len.false

pub returns-clause-out_after : goal.returns-clause-out_after
returns-clause-out_after c =
    let w = c.args.capture.now in
    let p = c.in-Some.ensures in
    printed w c.args.out.now _ p _ refl (size-there w _ p) c.in-Ok.len c.in-Ok.ensures c.lines.result c.lines.new.out c.if-out-len.false c.lines.ensures

pub returns-clause-result_bound : goal.returns-clause-result_bound
returns-clause-result_bound c =
    let w = c.args.capture.now in
    let p = c.in-Some.ensures in
    short-log w c.args.out.now _ p _ refl (size-there w _ p) c.in-Ok.len c.in-Ok.ensures
