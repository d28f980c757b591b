-- The sample values, by computing.
use mathlib.Core.Path.{refl}
use Rattle.bits.specs.Little.{le_bytes}
use Rattle.checksum.specs.Crc.{shift, shifts, crc_byte, crc_over}
use Rattle.rules.specs.Sending.{record_of}
use Rattle.capture_record.specs.Record.{timed}
use Rattle.capture_convert.specs.Capture.{records_of, trailer_of, capture_of}
use Rattle.capture_convert.proofs.laws.samples.Goals as goal

pub returns : goal.returns
unfolding capture_of records_of trailer_of timed record_of le_bytes crc_over crc_byte shifts shift
returns c = record { none = refl; least = refl; most = refl }
