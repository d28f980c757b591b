-- `judge` meets its contract.
use mathlib.Core.Path.{◌≡◌, ap, ◌∙◌}
use mathlib.Core.List.{List}
use Prim.Native.Nat.{ℕ}
use native.Mathlib.Omega.{arith}
use lib.ListN.{length, replicate, length-replicate}
use Rattle.bits.specs.Order.{Octets}
use Rattle.bits.proofs.Octets.{octets-all}
use Rattle.rules.specs.Setup.{Setup}
use Rattle.state.specs.Layout.{size}
use Rattle.judge_capture.specs.Judge.{captured}
use Rattle.judge_capture.proofs.Calls.{taken, refused, subscribes, not-acceptable, judged}
use Rattle.judge_capture.proofs.judge.Goals as goal

-- what the setup tells, on zeros
abbrev before : List ℕ
before = replicate size 0

long : length before ≡ size
long = length-replicate {A = ℕ} size 0

pub returns-in-Ok : goal.returns-in-Ok
returns-in-Ok c =
    let a = c.args in
    let s = a.subscriptions.now in
    let o : Octets s = octets-all s (λ i. omega (arith, c.type_inv.subscriptions i)) in
    let t = c.setup in
    record {
      value = c.of_capture.ensures.0
          ∙ ap (λ (u : Setup). captured u a.capture.now) (subscribes before s t.new.state t.result long t.ensures c.in-Ok.is o)
          ∙ judged s a.capture.now (taken before s t.new.state t.result long t.ensures c.in-Ok.is).0;
      result_bound = c.of_capture.ensures.1;
    }

pub returns-in-Err : goal.returns-in-Err
returns-in-Err c =
    let a = c.args in
    let t = c.setup in
    let e = c.in-Err.is in
    record { value = not-acceptable a.subscriptions.now a.capture.now (refused before a.subscriptions.now t.new.state t.result long t.ensures (λ d. let z : ◌≡◌ {A = ℕ} 0 1 = cc in omega arith)); result_bound = omega arith }
