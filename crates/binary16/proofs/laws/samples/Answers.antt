-- The worked values, computed.
use mathlib.Core.Path.{refl}
use lib.Ieee.{size}
use Rattle.binary16.specs.Convert.{widened, narrowed}
use Rattle.binary16.proofs.laws.samples.Goals as goal

pub returns : goal.returns
unfolding widened narrowed size
returns c =
    record {
      one = refl;
      smallest = refl;
      subnormal = refl;
      largest = refl;
      minus-zero = refl;
      infinity = refl;
      nan = refl;
      tie_down = refl;
      tie_up = refl;
      half-smallest = refl;
      above_half = refl;
      carried = refl;
      below-limit = refl;
      at-limit = refl;
      least-out = refl;
      most-out = refl;
      infinity-out = refl;
      nan-out = refl;
    }
