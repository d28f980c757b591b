-- `crc16::table` has the rule of the table at each entry: a test that antt computes over all of them.
use Rattle.checksum.specs.Crc.{shift, shifts}
use Rattle.checksum.proofs.Tables.{is-table}
use Rattle.checksum.proofs.crc16.table.Goals as goal

pub returns : goal.returns
unfolding shift shifts
returns c = is-table _ tt
