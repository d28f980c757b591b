use Rattle.dsdl_nesting.specs.Signature.{extended_by}
use Rattle.dsdl_nesting.specs.inside.Kept.{value_of, Kept}
use Rattle.dsdl_given.specs.Given.{nested_of}
use Rattle.dsdl_given.specs.inside.Places.{definition_at, given}
use lib.ListN.{get_or}
use Prim.Native.Nat.{ℕ}
use mathlib.Core.Bool.{false, cond}
use Rattle.dsdl_nesting.proofs.signature.next.Given as goal

abbrev pub invariant-loop-i : goal.invariant-loop-i
invariant-loop-i l = Kept 0 (λ (j : ℕ). cond (get_or l.done j false) (get_or l.values j 0) (extended_by (value_of 0 l.values (given l.source l.bounds l.n)) (get_or l.hashes j 0) (nested_of (definition_at l.source l.bounds j)))) 0 l.n l.i l.r
