-- `entry::time` meets its contract.
use Rattle.allocator_table.specs.Layout.{time_of}
use Rattle.allocator_table.proofs.entry.time.Goals as goal

pub returns : goal.returns
unfolding time_of
returns c = c.get_at.ensures
