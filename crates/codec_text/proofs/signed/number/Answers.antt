-- `signed::number` is safe and ends.
use native.Mathlib.Omega.{arith}
use Rattle.shape.proofs.SignedFacts.{size_of}
use Rattle.codec_text.proofs.signed.number.Goals as goal

pub overflow_add-size : goal.overflow_add-size
overflow_add-size c =
    omega (arith, size_of c.args.v c.ranges.v c.size.result c.size.ensures, c.ranges.v.sfits)
