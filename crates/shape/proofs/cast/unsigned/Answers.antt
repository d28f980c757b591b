-- `cast::unsigned` meets its contract.
use mathlib.Core.Bool.{true, false}
use native.Mathlib.Omega.{arith}
use Rattle.shape.proofs.SignedFacts.{sign, size_of}
use Rattle.shape.proofs.CastFacts.{unsigned_negative, unsigned-positive}
use Rattle.shape.proofs.cast.unsigned.Goals as goal

pub returns-then-v-lt0 : goal.returns-then-v-lt0
returns-then-v-lt0 c = unsigned_negative c.args.w c.args.v (sign c.args.v c.ranges.v true c.if-v-lt0.true)

pub returns : goal.returns
returns c =
    unsigned-positive c.args.w c.ones.result (omega arith) c.ones.ensures c.args.v c.size.result
    (size_of c.args.v c.ranges.v c.size.result c.size.ensures)
    (sign c.args.v c.ranges.v false c.if-v-lt0.false) c.least.result c.least.ensures
