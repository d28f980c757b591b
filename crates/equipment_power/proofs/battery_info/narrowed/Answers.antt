-- `battery_info::narrowed` meets its contract, float by float.
use Rattle.shape.proofs.SignedFacts.{is}
use Rattle.equipment_power.proofs.BatteryInfoFacts.{made}
use Rattle.equipment_power.proofs.battery_info.narrowed.Goals as goal

pub returns : goal.returns
returns c =
    let g = c.struct_told-1.given.1.1.1.1.1.1.1 in
    made c.from_f32.ensures c.from_f32-2.ensures c.from_f32-3.ensures c.from_f32-4.ensures c.from_f32-5.ensures c.from_f32-6.ensures c.from_f32-7.ensures
    (is _ (record { sfits = g.0.1 })) (is _ (record { sfits = g.1.0.1 })) (is _ (record { sfits = g.1.1.0.1 })) (is _ (record { sfits = g.1.1.1.0.1 })) (is _ (record { sfits = g.1.1.1.1.0.1 })) (is _ (record { sfits = g.1.1.1.1.1.0.1 }))
