-- `names::is_taken` meets its contract.
use Prim.Native.Nat.{ℕ}
use lib.ListN.{get_or}
use mathlib.Core.Path.{sym, ap, ◌∙◌}
use Rattle.dsdl.proofs.names.is_taken.Goals as goal

pub returns-then-marks-m-eq0 : goal.returns-then-marks-m-eq0
returns-then-marks-m-eq0 c =
    let a = c.args in
    sym (c.requires.0.free a.x.now (ap (λ (j : ℕ). get_or a.marks.now j 0) (sym c.requires.1.1.0) ∙ c.if-marks-m-eq0.true))
