-- `battery_info::encode` meets its contract: its floats narrowed, then `encode_raw`.
use mathlib.Core.Path.{ap, ◌∙◌}
use Rattle.shape.specs.Shape.{written}
use Rattle.equipment_power.specs.BatteryInfo.{name_only, battery_info, raw_values}
use Rattle.equipment_power.specs.declared.battery_info.Raw.{Raw}
use Rattle.equipment_power.proofs.battery_info.encode.Goals as goal

pub returns : goal.returns
returns c =
    let a = c.args in
    c.encode_raw.ensures ∙ ap (λ (m : Raw). written battery_info (raw_values m name_only a.model_name.now) a.out.now) c.narrowed.ensures
