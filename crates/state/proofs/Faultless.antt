-- What a state without a fault gives.
use mathlib.Core.Path.{◌≡◌}
use mathlib.Core.Bool.{true, ◌&&◌}
use mathlib.Core.List.{List}
use Prim.Native.Nat.{ℕ, ◌≤◌}
use borrow.Author.Tests.{eqb-true, leb-true}
use lib.Dec.{eqb, leb}
use lib.ListN.{length}
use Rattle.bits.specs.Tabulate.{every}
use Rattle.rules.specs.Blocks.{used}
use Rattle.rules.specs.Limits.{sessions_max}
use Rattle.rules.specs.Setup.{acceptable}
use Rattle.rules.specs.Sound.{places_fit, blocks_fit, apart, sound}
use Rattle.state.specs.Layout.{size, setup_of, free_of, places_of}
use Rattle.state.specs.Place.{free_set}
use Rattle.state.specs.Sound.{raw_fits, free_fits, sound_state}
use Rattle.state.specs.inside.Ready.{Ready}
use Rattle.state.proofs.Bools.{and_left, and_right}

module _ (m : List ℕ) (fine : sound_state m ≡ true) where
  pub long : size ≤ length m
  unfolding sound_state
  long = leb-true size (length m) (and_left (leb size (length m)) _ fine)

  rest : (acceptable (setup_of m) && (every (raw_fits m) 0 sessions_max && (free_fits m && sound (places_of m)))) ≡ true
  unfolding sound_state
  rest = and_right (leb size (length m)) _ fine

  pub setup-fine : acceptable (setup_of m) ≡ true
  setup-fine = and_left (acceptable (setup_of m)) _ rest

  tables : (every (raw_fits m) 0 sessions_max && (free_fits m && sound (places_of m))) ≡ true
  tables = and_right (acceptable (setup_of m)) _ rest

  blocks : (free_fits m && sound (places_of m)) ≡ true
  blocks = and_right (every (raw_fits m) 0 sessions_max) _ tables

  pub table-sound : sound (places_of m) ≡ true
  table-sound = and_right (free_fits m) (sound (places_of m)) blocks

  pub ready : Ready m
  unfolding sound
  ready =
      record {
        long = long;
        raw = and_left (every (raw_fits m) 0 sessions_max) _ tables;
        free = eqb-true (free_of m) (free_set (places_of m)) (and_left (free_fits m) (sound (places_of m)) blocks);
        fit = and_left (places_fit (places_of m)) (apart (places_of m)) (and_right (eqb (length (places_of m)) sessions_max && blocks_fit (used (places_of m))) _ table-sound);
        blocks = and_right (eqb (length (places_of m)) sessions_max) (blocks_fit (used (places_of m))) (and_left (eqb (length (places_of m)) sessions_max && blocks_fit (used (places_of m))) _ table-sound);
      }
