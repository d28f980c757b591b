-- `le::get_u64` meets its contract: two numbers of four bytes.
use native.Mathlib.Omega.{arith}
use Rattle.bits.proofs.Little.{le_low}
use Rattle.bits.proofs.le.get_u64.Goals as goal

pub returns : goal.returns
returns c =
    let a = c.args in
    let m = a.s.now in
    omega (arith, c.get_u32-2.ensures, c.get_u32.ensures, le_low m a.at 4 (omega arith))
