-- `battery_info::decode` meets its contract: what `decode_raw` gives, its floats widened.
use mathlib.Core.Path.{refl, sym, ap, ◌∙◌}
use Rattle.shape.specs.Answer.{got, numbered}
use Rattle.shape.proofs.Reading.{unrefused, unread, refused-on, got-on, handed-on}
use Rattle.equipment_power.specs.BatteryInfo.{with_floats}
use Rattle.equipment_power.specs.declared.battery_info.BatteryInfo.{BatteryInfo}
use Rattle.equipment_power.proofs.battery_info.decode.Goals as goal

pub returns-in_err-m : goal.returns-in_err-m
returns-in_err-m c =
    handed-on c.from_residual.result c.in_err-m.field-0.0 c.from_residual.ensures.1
    ∙ ap numbered (sym (refused-on with_floats refl (unrefused _ _ c.in_err-m.ensures)))

pub returns : goal.returns
returns c =
    let place = c.in_ok-m.place in
    ap (λ (x : BatteryInfo). numbered (got (x, place))) c.widened.ensures
    ∙ ap numbered (sym (got-on with_floats refl (unread _ _ c.in_ok-m.ensures)))
