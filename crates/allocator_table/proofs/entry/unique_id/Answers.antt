-- `entry::unique_id` meets its contract.
use Rattle.allocator_table.specs.Layout.{unique_at}
use Rattle.allocator_table.proofs.entry.unique_id.Goals as goal

pub returns : goal.returns
unfolding unique_at
returns c = c.read.ensures
