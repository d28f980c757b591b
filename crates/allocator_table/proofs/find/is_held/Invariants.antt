use mathlib.Core.Path.{◌≡◌}
use Rattle.allocator_table.specs.Table.{holds}
use Rattle.allocator_table.proofs.Walk.{rest}
use Rattle.allocator_table.proofs.find.is_held.Given as goal

abbrev pub invariant-loop-i : goal.invariant-loop-i
invariant-loop-i l = holds l.node (rest l.state l.i l.n) ≡ holds l.node (rest l.state 0 l.n)
