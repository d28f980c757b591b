-- The worked values, computed.
use mathlib.Core.Path.{refl}
use Rattle.bits.specs.Order.{digits, value_from, unpack, bytes, octets, to_bits, number, from_bits}
use Rattle.shape.specs.Answer.{refuse_if, map_answer}
use Rattle.shape.specs.Shape.{item_bits, items_of, all_below, encode, decode, fits, encoded}
use Rattle.shape.specs.Signed.{signed_of}
use Rattle.shape.specs.Cast.{nearest, low_bits}
use Rattle.equipment_esc.specs.RawCommand.{command_encoded}
use Rattle.equipment_esc.proofs.laws.samples.Goals as goal

pub returns : goal.returns
unfolding command_encoded signed_of nearest low_bits encoded decode encode fits item_bits items_of all_below refuse_if map_answer to_bits from_bits octets number unpack bytes digits value_from
returns c = record { read = refl; write = refl; one = refl; padding = refl; byte = refl; left = refl; clipped = refl; count = refl }
