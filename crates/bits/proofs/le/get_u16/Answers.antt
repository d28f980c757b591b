-- `le::get_u16` meets its contract: two bytes stand for the sum of their values.
use native.Mathlib.Omega.{arith}
use Rattle.bits.proofs.Little.{le-two}
use Rattle.bits.proofs.le.get_u16.Goals as goal

pub returns : goal.returns
returns c =
    let a = c.args in
    omega (arith, le-two a.s.now a.at (omega arith), c.byte-2.ensures.0, c.byte.ensures.0)
