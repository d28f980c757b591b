-- The worked values, computed.
use mathlib.Core.Path.{refl}
use Rattle.bits.specs.Little.{le, le_bytes}
use Rattle.bits.specs.Order.{digits, value_from, unpack, bytes, octets, to_bits, number, from_bits}
use Rattle.bits.specs.Tabulate.{tabulate}
use Rattle.shape.specs.Answer.{refuse_if, map_answer}
use Rattle.shape.specs.Shape.{item_bits, items_of, all_below, encode, decode, fits, encoded}
use Rattle.shape.specs.Cast.{nearest, low_bits}
use Rattle.allocator_table.specs.Layout.{time_of, gathered_count, entry_count, unique_at, node_at, table_of, sound_state, with_time, with_count, with_gathered, opened, with_entry_at, with_entry}
use Rattle.allocator_table.specs.Table.{holds, node_of, place_for, below, fits_before, sound, is_marked, is_free, lowest_from, highest_below, given}
use Rattle.allocator.specs.Allocate.{completes, decide, performs, on_message, allocated}
use Rattle.allocator.specs.Setup.{after_setup}
use Rattle.allocator.specs.Stage.{stage_of, expected_at, accepts, kept_at, joined, preferred}
use Rattle.allocator.proofs.laws.samples.Goals as goal

pub returns : goal.returns
unfolding allocated on_message performs decide completes stage_of expected_at accepts kept_at joined preferred after_setup time_of gathered_count entry_count unique_at node_at table_of sound_state with_time with_count with_gathered opened with_entry_at with_entry holds node_of place_for below fits_before sound is_marked is_free lowest_from highest_below given encoded decode encode fits item_bits items_of all_below refuse_if map_answer nearest low_bits to_bits from_bits octets number unpack bytes digits value_from le le_bytes tabulate
returns c =
    record {
      first = refl;
      six = refl;
      second = refl;
      twelve = refl;
      last = refl;
      table = refl;
      in-time = refl;
      late = refl;
      prefers-126 = refl;
      own = refl;
      marked = refl;
      upwards = refl;
      none_free = refl;
      no_room = refl;
      again = refl;
    }
