use Rattle.bits.specs.Tabulate.{every}
use lib.ListN.{get_or}
use Prim.Native.Nat.{ℕ, ◌-◌}
use mathlib.Core.Bool.{false}
use mathlib.Core.Path.{◌≡◌}
use Rattle.dsdl_nesting.proofs.marks.all.Given as goal

abbrev pub invariant-loop-i : goal.invariant-loop-i
invariant-loop-i l = every (λ (j : ℕ). get_or l.marks j false) l.i (l.n - l.i) ≡ every (λ (j : ℕ). get_or l.marks j false) 0 l.n
