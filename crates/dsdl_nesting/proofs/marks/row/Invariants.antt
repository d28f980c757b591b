use Rattle.dsdl_nesting.specs.inside.Sets.{row_holds}
use Rattle.bits.specs.Tabulate.{every}
use lib.ListN.{get_or}
use Prim.Native.Nat.{ℕ, ◌+◌, ◌*◌, ◌-◌}
use mathlib.Core.Bool.{false, not, ◌||◌}
use mathlib.Core.Path.{◌≡◌}
use Rattle.dsdl_nesting.proofs.marks.row.Given as goal

abbrev pub invariant-loop-j : goal.invariant-loop-j
invariant-loop-j l = every (λ (k : ℕ). not (get_or l.sets (l.i * 9 + k) false) || get_or l.marks k false) l.j (9 - l.j) ≡ row_holds l.sets l.marks l.i
