use Rattle.dsdl_nesting.specs.inside.Kept.{Kept}
use Rattle.dsdl_given.specs.Given.{is_service_of}
use Rattle.dsdl_given.specs.inside.Places.{definition_at}
use Prim.Native.Nat.{ℕ}
use mathlib.Core.Bool.{false, not}
use Rattle.dsdl_nesting.proofs.marks.messages.Given as goal

abbrev pub invariant-loop-i : goal.invariant-loop-i
invariant-loop-i l = Kept false (λ (j : ℕ). not (is_service_of (definition_at l.source l.bounds j))) false l.n l.i l.r
