-- `entry` meets its contract.
use Rattle.checksum.specs.Crc.{crc_over}
use Rattle.checksum_table.proofs.entry.Goals as goal

pub returns : goal.returns
unfolding crc_over
returns c = c.over.ensures
