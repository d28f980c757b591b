-- `le::get_u32` meets its contract: four bytes stand for the sum of their values.
use mathlib.Core.Path.{◌≡◌}
use Prim.Native.Nat.{◌+◌, ◌*◌}
use native.Mathlib.Omega.{arith}
use lib.ListN.{get_or}
use Rattle.bits.specs.Little.{le}
use Rattle.bits.specs.Part.{span}
use Rattle.bits.proofs.Little.{le_four}
use Rattle.bits.proofs.le.get_u32.Goals as goal

pub returns : goal.returns
unfolding le
returns c =
    let a = c.args in
    let e : le (span a.s.now a.at 4)
    ≡ get_or a.s.now a.at 0 + 256 * get_or a.s.now (a.at + 1) 0 + 65536 * get_or a.s.now (a.at + 2) 0 + 16777216 * get_or a.s.now (a.at + 3) 0 + 4294967296 * 0 =
    le_four a.s.now a.at 0 (omega arith) in
    omega (
      arith,
      e,
      c.byte-4.ensures.0,
      c.byte-3.ensures.0,
      c.byte-2.ensures.0,
      c.byte.ensures.0,
    )
