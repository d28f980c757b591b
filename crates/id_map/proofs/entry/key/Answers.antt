-- `entry::key` meets its contract.
use Rattle.id_map.specs.Layout.{key_at}
use Rattle.id_map.proofs.entry.key.Goals as goal

pub returns : goal.returns
unfolding key_at
returns c = c.get_u32.ensures
