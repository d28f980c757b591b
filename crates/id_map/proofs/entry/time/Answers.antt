-- `entry::time` meets its contract.
use Rattle.id_map.specs.Layout.{time_at}
use Rattle.id_map.proofs.entry.time.Goals as goal

pub returns : goal.returns
unfolding time_at
returns c = c.get_u64.ensures
