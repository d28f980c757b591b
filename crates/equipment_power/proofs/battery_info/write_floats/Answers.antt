-- `battery_info::write_floats` meets its contract: the floats follow each other.
use native.Mathlib.Omega.{arith}
use Rattle.equipment_power.proofs.BatteryInfoFacts.{stored_floats}
use Rattle.equipment_power.proofs.battery_info.write_floats.Goals as goal

pub returns : goal.returns
returns c =
    let a = c.args in
    stored_floats a.m a.out.now c.write_half.new.out c.write_half-2.new.out c.write_half-3.new.out c.write_half-4.new.out c.write_half-5.new.out c.write_half-6.new.out c.write_half-7.new.out (omega arith)
    c.write_half.ensures c.write_half-2.ensures c.write_half-3.ensures c.write_half-4.ensures c.write_half-5.ensures c.write_half-6.ensures c.write_half-7.ensures
