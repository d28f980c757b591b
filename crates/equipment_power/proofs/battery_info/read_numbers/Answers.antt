-- `battery_info::read_numbers` meets its contract, field by field.
use native.Mathlib.Omega.{arith}
use lib.Dec.{lit≤}
use Rattle.shape.proofs.CastFacts.{number_read}
use Rattle.equipment_power.proofs.BatteryInfoFacts.{made}
use Rattle.equipment_power.specs.BatteryInfo.{raw_at}
use Rattle.equipment_power.proofs.battery_info.read_numbers.Goals as goal

pub returns : goal.returns
unfolding raw_at
returns c =
    let s = c.args.s.now in
    made c.half.ensures c.half-2.ensures c.half-3.ensures c.half-4.ensures c.half-5.ensures c.half-6.ensures c.half-7.ensures
    (number_read s 112 11 (lit≤ tt) (omega arith) c.read.result c.read.ensures)
    (number_read s 123 7 (lit≤ tt) (omega arith) c.read-2.result c.read-2.ensures)
    (number_read s 130 7 (lit≤ tt) (omega arith) c.read-3.result c.read-3.ensures)
    (number_read s 137 7 (lit≤ tt) (omega arith) c.read-4.result c.read-4.ensures)
    (number_read s 144 8 (lit≤ tt) (omega arith) c.read-5.result c.read-5.ensures)
    (number_read s 152 32 (lit≤ tt) (omega arith) c.read-6.result c.read-6.ensures)
