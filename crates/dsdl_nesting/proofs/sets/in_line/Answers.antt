-- `sets::in_line` meets its contract.
use Rattle.dsdl_nesting.specs.inside.Sets.{marked_by}
use lib.ListN.{set}
use Prim.Native.Nat.{ℕ, ◌+◌, ◌*◌}
use mathlib.Core.Bool.{true}
use mathlib.Core.Path.{ap}
use Rattle.dsdl_nesting.proofs.sets.in_line.Goals as goal

pub returns-in-Some : goal.returns-in-Some
unfolding marked_by
returns-in-Some c =
    let a = c.args in
    rw (c.in-Some.ensures.0 a.space.now) (ap (λ (j : ℕ). set a.sets.now (a.i * 9 + j) true) c.find-j.ensures.0)

pub returns-in_default : goal.returns-in_default
unfolding marked_by
returns-in_default c = rw (c.in_default.ensures.0 c.args.space.now)
