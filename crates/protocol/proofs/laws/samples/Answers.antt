-- The worked values, computed.
use mathlib.Core.Path.{refl}
use Rattle.bits.specs.Order.{digits, value_from, unpack, bytes, octets, to_bits, number, from_bits}
use Rattle.bits.specs.Width.{width_in, width_of}
use Rattle.protocol.specs.Name.{between, is_letter, all_letters, is_name}
use Rattle.shape.specs.Answer.{refuse_if, map_answer}
use Rattle.shape.specs.Cast.{nearest, low_bits}
use Rattle.shape.specs.Shape.{item_bits, items_of, all_below, encode, decode, fits, encoded}
use Rattle.protocol.proofs.laws.samples.Goals as goal

pub returns : goal.returns
unfolding encoded decode encode fits item_bits items_of all_below refuse_if map_answer nearest low_bits to_bits from_bits octets number unpack bytes digits value_from width_of width_in is_name all_letters is_letter between
returns c = record { status = refl; clipped = refl; response-read = refl; response-written = refl }
