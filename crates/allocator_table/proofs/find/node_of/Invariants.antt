use mathlib.Core.Path.{◌≡◌}
use Rattle.allocator_table.specs.Table.{node_of}
use Rattle.allocator_table.specs.inside.Code.{number_of}
use Rattle.allocator_table.proofs.Walk.{rest}
use Rattle.allocator_table.proofs.find.node_of.Given as goal

abbrev pub invariant-loop-i : goal.invariant-loop-i
invariant-loop-i l = node_of (number_of l.u) (rest l.state l.i l.n) ≡ node_of (number_of l.u) (rest l.state 0 l.n)
