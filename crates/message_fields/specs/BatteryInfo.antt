-- RULES 13.5, 10.9: BatteryInfo as a row. A float is the 32 bits of a binary32 (RULES 9.12).
use Rattle.std.specs.Prelude.{not, List, [], ◌∷◌, ◌++◌, ℕ, ◌^◌, take, get_or}
use Rattle.binary16.specs.Convert.{widened, narrowed}
use Rattle.shape.specs.Answer.{Answer, refuse_if, map_answer}
use Rattle.shape.specs.Shape.{all_below, encoded}
use Rattle.shape.specs.declared.answer.Place.{Place}
use Rattle.equipment_power.specs.BatteryInfo.{name_only, battery_info, raw_values, raw_in}
use Rattle.equipment_power.specs.declared.battery_info.Raw.{Raw}
use Rattle.row.specs.Row.{word, place_words, count_at, given}

abbrev pub float_words : Raw → List ℕ
float_words x =
    widened x.temperature ∷ widened x.voltage ∷ widened x.current ∷ widened x.average_power_10sec
    ∷ widened x.remaining_capacity_wh ∷ widened x.full_charge_capacity_wh ∷ widened x.hours_to_full_charge ∷ []

abbrev pub number_words : Raw → List ℕ
number_words x =
    word x.status_flags ∷ word x.state_of_health_pct ∷ word x.state_of_charge_pct ∷ word x.state_of_charge_pct_stdev
    ∷ word x.battery_id ∷ word x.model_instance_id ∷ []

abbrev pub info_words : Raw × Place → List ℕ
info_words (x, name) = float_words x ++ (number_words x ++ place_words name [])

abbrev pub info_in : List ℕ → Answer (List ℕ)
info_in p = map_answer info_words (raw_in p)

abbrev pub info_from : List ℕ → Raw
info_from ws =
    record {
      temperature = narrowed (get_or ws 0 0);
      voltage = narrowed (get_or ws 1 0);
      current = narrowed (get_or ws 2 0);
      average_power_10sec = narrowed (get_or ws 3 0);
      remaining_capacity_wh = narrowed (get_or ws 4 0);
      full_charge_capacity_wh = narrowed (get_or ws 5 0);
      hours_to_full_charge = narrowed (get_or ws 6 0);
      status_flags = count_at ws 7;
      state_of_health_pct = count_at ws 8;
      state_of_charge_pct = count_at ws 9;
      state_of_charge_pct_stdev = count_at ws 10;
      battery_id = count_at ws 11;
      model_instance_id = count_at ws 12;
    }

-- 17 for a float of 2^32 or more, which is none
abbrev pub info_made : List ℕ → List ℕ → ℕ → Answer (List ℕ)
info_made ws name room =
    given 15 ws (refuse_if (not (all_below (2 ^ 32) (take 7 ws))) 17 (encoded battery_info (raw_values (info_from ws) name_only name) room))
