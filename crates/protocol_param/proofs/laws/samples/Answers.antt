-- The worked values, computed.
use mathlib.Core.Path.{refl}
use Rattle.bits.specs.Order.{digits, value_from, unpack, bytes, octets, to_bits, number, from_bits}
use Rattle.bits.specs.Width.{width_in, width_of}
use Rattle.shape.specs.Answer.{refuse_if, map_answer}
use Rattle.shape.specs.Signed.{signed_of}
use Rattle.shape.specs.Cast.{nearest, low_bits}
use Rattle.shape.specs.Shape.{item_bits, items_of, all_below, encode, decode, fits, encoded}
use Rattle.protocol_param.proofs.laws.samples.Goals as goal

pub returns : goal.returns
unfolding encoded decode encode fits item_bits items_of all_below refuse_if map_answer nearest low_bits signed_of width_of width_in to_bits from_bits octets number unpack bytes digits value_from
returns c =
    record {
      integer = refl;
      text = refl;
      text-back = refl;
      five = refl;
      seven = refl;
      response-back = refl;
      response-padded = refl;
      no-case = refl;
      unknown = refl;
      opcode-request = refl;
      opcode-response = refl;
      left_over = refl;
    }
