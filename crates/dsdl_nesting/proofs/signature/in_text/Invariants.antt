use Rattle.dsdl_nesting.proofs.Walks.{nested_from}
use Rattle.dsdl_nesting.specs.Signature.{extended_by}
use Rattle.dsdl_nesting.specs.inside.Kept.{value_of}
use Rattle.dsdl_given.specs.inside.Places.{given}
use lib.ListN.{length}
use Prim.Native.Nat.{◌-◌, ◌≤◌}
use mathlib.Core.Path.{◌≡◌}
use Rattle.dsdl_nesting.proofs.signature.in_text.Given as goal

abbrev pub invariant-loop-bounds : goal.invariant-loop-bounds
invariant-loop-bounds l = (l.at ≤ length l.text) × (extended_by (value_of 0 l.values (given l.source l.bounds l.n)) l.h (nested_from l.space l.text l.at) ≡ extended_by (value_of 0 l.values (given l.source l.bounds l.n)) l.hash (nested_from l.space l.text 0))

abbrev pub decreases-loop-bounds : goal.decreases-loop-bounds
decreases-loop-bounds l = length l.text - l.at
