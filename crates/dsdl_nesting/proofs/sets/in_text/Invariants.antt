use Rattle.dsdl_nesting.proofs.Walks.{nested_from}
use Rattle.dsdl_nesting.specs.inside.Sets.{place_in, marked_by}
use Rattle.dsdl_given.specs.inside.Places.{given}
use lib.ListN.{length}
use Prim.Native.Nat.{◌-◌, ◌≤◌}
use mathlib.Core.Path.{◌≡◌}
use Rattle.dsdl_nesting.proofs.sets.in_text.Given as goal

abbrev pub invariant-loop-bounds : goal.invariant-loop-bounds
invariant-loop-bounds l = (l.at ≤ length l.text) × (marked_by (place_in l.i (given l.source l.bounds l.n)) l.sets (nested_from l.space l.text l.at) ≡ marked_by (place_in l.i (given l.source l.bounds l.n)) l.initial.sets (nested_from l.space l.text 0))

abbrev pub decreases-loop-bounds : goal.decreases-loop-bounds
decreases-loop-bounds l = length l.text - l.at
