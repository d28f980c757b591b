-- `entry::gathered_count` meets its contract.
use Rattle.allocator_table.specs.Layout.{gathered_count}
use Rattle.allocator_table.proofs.entry.gathered_count.Goals as goal

pub returns : goal.returns
unfolding gathered_count
returns c = c.get_at.ensures
