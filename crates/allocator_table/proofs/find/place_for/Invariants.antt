use mathlib.Core.Path.{◌≡◌}
use Prim.Native.Nat.{◌+◌}
use Rattle.allocator_table.specs.Table.{place_for}
use Rattle.allocator_table.specs.inside.Code.{number_of}
use Rattle.allocator_table.proofs.Walk.{rest}
use Rattle.allocator_table.proofs.find.place_for.Given as goal

abbrev pub invariant-loop-i : goal.invariant-loop-i
invariant-loop-i l = l.i + place_for (number_of l.u) (rest l.state l.i l.n) ≡ place_for (number_of l.u) (rest l.state 0 l.n)
