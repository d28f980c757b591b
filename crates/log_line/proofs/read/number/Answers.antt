-- `read::number` meets its contract.
use Rattle.digits.specs.Digits.{number}
use Rattle.digits.specs.inside.Text.{as_number}
use Rattle.bits.specs.Part.{span}
use native.Mathlib.Nat.{add-sub_cancel_left}
use Prim.Native.Nat.{ℕ}
use mathlib.Core.Path.{ap, ◌∙◌}
use Rattle.log_line.proofs.read.number.Goals as goal

pub returns : goal.returns
returns c =
    let a = c.args in
    c.number.ensures ∙ ap (λ (k : ℕ). as_number (number a.base (span a.line.now a.at k))) (add-sub_cancel_left a.at a.n)
