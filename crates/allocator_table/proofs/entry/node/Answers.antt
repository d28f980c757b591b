-- `entry::node` meets its contract.
use Rattle.allocator_table.specs.Layout.{node_at}
use Rattle.allocator_table.proofs.entry.node.Goals as goal

pub returns : goal.returns
unfolding node_at
returns c = c.get_at.ensures
