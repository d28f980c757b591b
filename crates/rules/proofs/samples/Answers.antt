-- The sample values, by computing.
use mathlib.Core.Path.{refl}
use Rattle.bits.specs.Order.{digits, value_from, bytes, octets, to_bits}
use Rattle.checksum.specs.Crc.{shift, shifts, crc_byte, crc_over}
use Rattle.rules.specs.Frame.{stream_of}
use Rattle.rules.specs.Sent.{pieces, carrying, carried, sent}
use Rattle.rules.proofs.samples.Goals as goal

pub returns : goal.returns
unfolding digits value_from bytes octets to_bits shift shifts crc_byte crc_over stream_of pieces carrying carried sent
returns c = refl
