-- RULES 10.9: BatteryInfo. Seven floats of 16 bits; status flags 11, state of health 7, state of charge 7, its deviation 7, battery ID 8, model
-- instance ID 32; model name list of at most 31.
use Rattle.std.specs.Prelude.{Bool, List, ℕ, pos, length, drop}
use Rattle.binary16.specs.Convert.{float_of, binary16_of}
use Rattle.bits.specs.Order.{from_bits}
use Rattle.shape.specs.Answer.{Answer, map_answer}
use Rattle.shape.specs.Shape.{Shape, uint, raw, tail, Values, anything, decoded}
use Rattle.shape.specs.declared.answer.Place.{Place}
use Rattle.equipment_power.specs.declared.battery_info.BatteryInfo.{BatteryInfo}
use Rattle.equipment_power.specs.declared.battery_info.Raw.{Raw}

-- the floats, the other numbers, and what follows them
abbrev pub floats_then : Shape → Shape
floats_then d = raw 16 (raw 16 (raw 16 (raw 16 (raw 16 (raw 16 (raw 16 d))))))

abbrev pub others_then : Shape → Shape
others_then d = uint 11 (uint 7 (uint 7 (uint 7 (uint 8 (uint 32 d)))))

abbrev pub name_only : Shape
name_only = tail 8 31 anything

abbrev pub battery_info : Shape
battery_info = floats_then (others_then name_only)

-- RULES 9.9: the model name as a part of the payload
abbrev pub model_name_in : List ℕ → List ℕ
model_name_in p = drop 23 p

-- ── the payload's own numbers: a float is the number of its 16 bits ──

abbrev pub float_values : Raw → (d : Shape) → Values d → Values (floats_then d)
float_values m d rest =
    (m.temperature, (m.voltage, (m.current, (m.average_power_10sec, (m.remaining_capacity_wh, (m.full_charge_capacity_wh, (m.hours_to_full_charge, rest)))))))

abbrev pub other_values : Raw → (d : Shape) → Values d → Values (others_then d)
other_values m d rest =
    (m.status_flags, (m.state_of_health_pct, (m.state_of_charge_pct, (m.state_of_charge_pct_stdev, (m.battery_id, (m.model_instance_id, rest))))))

abbrev pub raw_values : Raw → (d : Shape) → Values d → Values (floats_then (others_then d))
raw_values m d rest = float_values m (others_then d) (other_values m d rest)

abbrev pub raw_of : Values battery_info → Raw × Place
raw_of (t, (v, (c, (p, (r, (f, (h, (flags, (health, (charge, (deviation, (id, (model, name))))))))))))) = (
  record {
    temperature = t;
    voltage = v;
    current = c;
    average_power_10sec = p;
    remaining_capacity_wh = r;
    full_charge_capacity_wh = f;
    hours_to_full_charge = h;
    status_flags = flags;
    state_of_health_pct = health;
    state_of_charge_pct = charge;
    state_of_charge_pct_stdev = deviation;
    battery_id = id;
    model_instance_id = model;
  },
  record { at = 23; len = length name },
)

-- what a payload gives
abbrev pub raw_in : List ℕ → Answer (Raw × Place)
raw_in p = map_answer raw_of (decoded battery_info p)

-- the numbers at the front of bits
unfoldable pub raw_at : List Bool → Raw
raw_at bs =
    record {
      temperature = from_bits 16 bs;
      voltage = from_bits 16 (drop 16 bs);
      current = from_bits 16 (drop 32 bs);
      average_power_10sec = from_bits 16 (drop 48 bs);
      remaining_capacity_wh = from_bits 16 (drop 64 bs);
      full_charge_capacity_wh = from_bits 16 (drop 80 bs);
      hours_to_full_charge = from_bits 16 (drop 96 bs);
      status_flags = pos (from_bits 11 (drop 112 bs));
      state_of_health_pct = pos (from_bits 7 (drop 123 bs));
      state_of_charge_pct = pos (from_bits 7 (drop 130 bs));
      state_of_charge_pct_stdev = pos (from_bits 7 (drop 137 bs));
      battery_id = pos (from_bits 8 (drop 144 bs));
      model_instance_id = pos (from_bits 32 (drop 152 bs));
    }

-- ── the view: a float as an f32 (RULES 9.12) ──

abbrev pub widened_info : Raw → BatteryInfo
widened_info m =
    record {
      temperature = float_of m.temperature;
      voltage = float_of m.voltage;
      current = float_of m.current;
      average_power_10sec = float_of m.average_power_10sec;
      remaining_capacity_wh = float_of m.remaining_capacity_wh;
      full_charge_capacity_wh = float_of m.full_charge_capacity_wh;
      hours_to_full_charge = float_of m.hours_to_full_charge;
      status_flags = m.status_flags;
      state_of_health_pct = m.state_of_health_pct;
      state_of_charge_pct = m.state_of_charge_pct;
      state_of_charge_pct_stdev = m.state_of_charge_pct_stdev;
      battery_id = m.battery_id;
      model_instance_id = m.model_instance_id;
    }

abbrev pub narrowed_info : BatteryInfo → Raw
narrowed_info x =
    record {
      temperature = binary16_of x.temperature;
      voltage = binary16_of x.voltage;
      current = binary16_of x.current;
      average_power_10sec = binary16_of x.average_power_10sec;
      remaining_capacity_wh = binary16_of x.remaining_capacity_wh;
      full_charge_capacity_wh = binary16_of x.full_charge_capacity_wh;
      hours_to_full_charge = binary16_of x.hours_to_full_charge;
      status_flags = x.status_flags;
      state_of_health_pct = x.state_of_health_pct;
      state_of_charge_pct = x.state_of_charge_pct;
      state_of_charge_pct_stdev = x.state_of_charge_pct_stdev;
      battery_id = x.battery_id;
      model_instance_id = x.model_instance_id;
    }

abbrev pub with_floats : Raw × Place → BatteryInfo × Place
with_floats (m, place) = (widened_info m, place)

abbrev pub info_in : List ℕ → Answer (BatteryInfo × Place)
info_in p = map_answer with_floats (raw_in p)
