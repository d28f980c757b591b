-- `battery_info::half` meets its contract: 16 bits are below 65,536.
use native.Mathlib.Omega.{arith}
use Rattle.bits.proofs.Numbers.{from_bits-lt}
use lib.ListN.{drop, length-drop}
use Rattle.bits.specs.Order.{unpack}
use Rattle.bits.proofs.Bytes.{length-unpack}
use Rattle.equipment_power.proofs.battery_info.half.Goals as goal

pub overflow_cast-result : goal.overflow_cast-result
overflow_cast-result c =
    let a = c.args in
    let s = a.s.now in
    omega (arith, c.read.ensures, from_bits-lt 16 (drop a.at (unpack s)) (omega (arith, length-drop a.at (unpack s), length-unpack s)))
