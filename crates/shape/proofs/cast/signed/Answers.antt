-- `cast::signed` meets its contract.
use mathlib.Core.Bool.{true, false}
use native.Mathlib.Omega.{arith}
use Rattle.shape.proofs.SignedFacts.{sign, size_of}
use Rattle.shape.proofs.CastFacts.{signed-fits, signed-negative, signed-positive}
use Rattle.shape.proofs.cast.signed.Goals as goal

pub overflow_sub-result : goal.overflow_sub-result
overflow_sub-result c =
    signed-fits c.args.w c.ones-top.result (omega arith) c.ones-top.ensures c.args.v c.size.result
    (size_of c.args.v c.ranges.v c.size.result c.size.ensures) c.least-n.result c.least-n.ensures

pub returns-then-v-lt0 : goal.returns-then-v-lt0
returns-then-v-lt0 c =
    signed-negative c.args.w c.ones-top.result (omega arith) c.ones-top.ensures c.args.v c.size.result
    (size_of c.args.v c.ranges.v c.size.result c.size.ensures) c.least-n.result c.least-n.ensures (sign c.args.v c.ranges.v true c.if-v-lt0.true)

pub returns : goal.returns
returns c =
    signed-positive c.args.w c.ones-top.result (omega arith) c.ones-top.ensures c.args.v c.size.result
    (size_of c.args.v c.ranges.v c.size.result c.size.ensures) c.least-n.result c.least-n.ensures (sign c.args.v c.ranges.v false c.if-v-lt0.false)
