-- RULES 9.10: the return trips of BatteryInfo, instances of the laws over every description; `laws.rt` has a function for them.
use Rattle.std.specs.Prelude.{◌≡◌, true, List, [], ◌∷◌, ℕ, ◌^◌, ◌≤◌, ◌<◌, length, Float}
use Rattle.binary16.specs.Format.{code16}
use Rattle.binary16.specs.Convert.{float_of}
use Rattle.bits.specs.Order.{Octets, unpack}
use Rattle.shape.specs.Answer.{got}
use Rattle.shape.specs.Cast.{unsigned, saturated, clip}
use Rattle.shape.specs.Shape.{end, Values, within, encoded, cleared}
use Rattle.shape.specs.Laws.{Trips, Never25}
use Rattle.shape.specs.declared.answer.Place.{Place}
use Rattle.equipment_power.specs.BatteryInfo.{others_then, name_only, battery_info, model_name_in, other_values, raw_values, raw_of, raw_at, narrowed_info, info_in}
use Rattle.equipment_power.specs.declared.battery_info.BatteryInfo.{BatteryInfo}
use Rattle.equipment_power.specs.declared.battery_info.Raw.{Raw}

-- what is in a payload, numbers at their places and the name as the part that `model_name` gives
abbrev pub found : List ℕ → Values battery_info
found p = raw_values (raw_at (unpack p)) name_only (model_name_in p)

-- an f32 that some binary16 equals
abbrev pub Held : Float → Type 0
Held x = (h : ℕ) × ((h < 2 ^ 16) × (x ≡ float_of h))

abbrev pub AllHeld : List Float → Type 0
AllHeld [] = Unit {0}
AllHeld (x ∷ xs) = Held x × AllHeld xs

abbrev pub floats : BatteryInfo → List Float
floats x =
    x.temperature ∷ x.voltage ∷ x.current ∷ x.average_power_10sec ∷ x.remaining_capacity_wh ∷ x.full_charge_capacity_wh ∷ x.hours_to_full_charge ∷ []

-- RULES 9.14: a pack's state with its numbers clipped
abbrev pub clipped_info : BatteryInfo → BatteryInfo
clipped_info x =
    record {
      temperature = x.temperature;
      voltage = x.voltage;
      current = x.current;
      average_power_10sec = x.average_power_10sec;
      remaining_capacity_wh = x.remaining_capacity_wh;
      full_charge_capacity_wh = x.full_charge_capacity_wh;
      hours_to_full_charge = x.hours_to_full_charge;
      status_flags = clip unsigned saturated 11 x.status_flags;
      state_of_health_pct = clip unsigned saturated 7 x.state_of_health_pct;
      state_of_charge_pct = clip unsigned saturated 7 x.state_of_charge_pct;
      state_of_charge_pct_stdev = clip unsigned saturated 7 x.state_of_charge_pct_stdev;
      battery_id = clip unsigned saturated 8 x.battery_id;
      model_instance_id = clip unsigned saturated 32 x.model_instance_id;
    }

-- no pattern is a NaN's
abbrev pub NoNan : List ℕ → Type 0
NoNan [] = Unit {0}
NoNan (h ∷ hs) = (code16 h ≤ 0x7C00) × NoNan hs

abbrev pub patterns : Raw → List ℕ
patterns m =
    m.temperature ∷ m.voltage ∷ m.current ∷ m.average_power_10sec ∷ m.remaining_capacity_wh ∷ m.full_charge_capacity_wh ∷ m.hours_to_full_charge ∷ []

pub record Laws : Type 0 where
  -- by the payload's own numbers every bit is kept, a NaN's too
  pub raw : Trips battery_info raw_of found
  pub whole : (p : List ℕ) → Octets p → cleared battery_info p ≡ p
  -- RULES 9.4: it fills whole bytes
  pub never-25 : Never25 battery_info
  -- as f32: what was written is read, numbers as they were clipped, where each float is one that some binary16 equals
  pub there : (x : BatteryInfo) (name : List ℕ) (room : ℕ) (p : List ℕ) → AllHeld (floats x)
      → encoded battery_info (raw_values (narrowed_info x) name_only name) room ≡ got p
      → (info_in p ≡ got (clipped_info x, record { at = 23; len = length name })) × (model_name_in p ≡ name)
  -- numbers that their fields hold are not changed
  pub kept : (x : BatteryInfo) → within (others_then end) (other_values (narrowed_info x) end tt) ≡ true → clipped_info x ≡ x
  -- and what was read is written as it came, where none is NaN
  pub back : (p : List ℕ) → Octets p → (x : BatteryInfo) (place : Place) (room : ℕ) → info_in p ≡ got (x, place) → length p ≤ room
      → NoNan (patterns (raw_at (unpack p)))
      → encoded battery_info (raw_values (narrowed_info x) name_only (model_name_in p)) room ≡ got p
