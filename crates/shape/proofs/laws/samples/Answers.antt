-- The worked values, computed.
use mathlib.Core.Path.{refl}
use Rattle.bits.specs.Order.{digits, value_from, unpack, bytes, octets, to_bits, number, from_bits}
use Rattle.bits.specs.Width.{width_in, width_of}
use Rattle.shape.specs.Answer.{refuse_if, map_answer}
use Rattle.shape.specs.Signed.{signed_of}
use Rattle.shape.specs.Cast.{nearest, low_bits}
use Rattle.shape.specs.Shape.{encode, decode, fits, encoded}
use Rattle.shape.proofs.laws.samples.Goals as goal

pub returns : goal.returns
unfolding encoded decode encode fits refuse_if map_answer nearest low_bits signed_of to_bits from_bits octets number unpack bytes digits value_from width_of width_in
returns c =
    record {
      time-high = refl;
      time-low = refl;
      saturated-high = refl;
      saturated-low = refl;
      signed_high = refl;
      signed_low = refl;
      cut_high = refl;
      cut-high-read = refl;
      cut_low = refl;
      two = refl;
      three-four = (refl, refl);
      five-eight = (refl, refl);
      nine = refl;
    }
