-- `battery_info::write_others` meets its contract: the other numbers follow each other.
use native.Mathlib.Omega.{arith}
use Rattle.shape.proofs.CastFacts.{number-given}
use Rattle.equipment_power.proofs.BatteryInfoFacts.{stored-others}
use Rattle.equipment_power.proofs.battery_info.write_others.Goals as goal

pub returns : goal.returns
returns c =
    let a = c.args in
    let m = a.m in
    let m₀ = a.out.now in
    let m₁ = c.write.new.s in
    let m₂ = c.write-2.new.s in
    let m₃ = c.write-3.new.s in
    let m₄ = c.write-4.new.s in
    let m₅ = c.write-5.new.s in
    let m₆ = c.write-6.new.s in
    stored-others m m₀ m₁ m₂ m₃ m₄ m₅ m₆ (omega arith)
    (number-given m₀ m₁ 112 11 m.status_flags (record { sfits = c.struct_told-1.given.1.1.1.1.1.1.1.0.1 }) c.write.ensures)
    (number-given m₁ m₂ 123 7 m.state_of_health_pct (record { sfits = c.struct_told-2-1.given.1.1.1.1.1.1.1.1.0.1 }) c.write-2.ensures)
    (number-given m₂ m₃ 130 7 m.state_of_charge_pct (record { sfits = c.struct_told-3-1.given.1.1.1.1.1.1.1.1.1.0.1 }) c.write-3.ensures)
    (number-given m₃ m₄ 137 7 m.state_of_charge_pct_stdev (record { sfits = c.struct_told-4-1.given.1.1.1.1.1.1.1.1.1.1.0.1 }) c.write-4.ensures)
    (number-given m₄ m₅ 144 8 m.battery_id (record { sfits = c.struct_told-5-1.given.1.1.1.1.1.1.1.1.1.1.1.0.1 }) c.write-5.ensures)
    (number-given m₅ m₆ 152 32 m.model_instance_id (record { sfits = c.struct_told-6-1.given.1.1.1.1.1.1.1.1.1.1.1.1.0.1 }) c.write-6.ensures)
