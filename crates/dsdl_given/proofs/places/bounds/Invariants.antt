use Rattle.dsdl_given.specs.Given.{length_at}
use Rattle.dsdl_given.specs.inside.Places.{Bounds}
use lib.ListN.{length, get_or}
use Prim.Native.Nat.{◌*◌, ◌≤◌}
use mathlib.Core.Path.{◌≡◌}
use Rattle.dsdl_given.proofs.places.bounds.Given as goal

abbrev pub invariant-loop-k : goal.invariant-loop-k
invariant-loop-k l = (length l.ends ≡ 17) × (l.at ≤ l.k * 4294967295) × (l.at ≡ get_or l.ends l.k 0) × Bounds (length_at l.lengths) l.ends l.k
