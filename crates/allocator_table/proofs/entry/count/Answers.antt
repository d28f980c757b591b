-- `entry::count` meets its contract.
use Rattle.allocator_table.specs.Layout.{entry_count}
use Rattle.allocator_table.proofs.entry.count.Goals as goal

pub returns : goal.returns
unfolding entry_count
returns c = c.get_at.ensures
