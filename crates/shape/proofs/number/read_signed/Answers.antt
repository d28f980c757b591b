-- `number::read_signed` meets its contract.
use native.Mathlib.Omega.{arith}
use Rattle.shape.proofs.CastFacts.{bits_below}
use Rattle.shape.proofs.number.read_signed.Goals as goal

pub value-requires : goal.value-requires
value-requires c =
    let a = c.args in
    ((omega arith, omega arith), omega (arith, c.read.ensures, bits_below a.s.now a.at a.w (omega arith) (omega arith) (omega arith)))
