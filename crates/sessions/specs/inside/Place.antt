-- RULES 4.3, 4.12: one place as the code reads and writes it.
use Rattle.std.specs.Prelude.{◌≡◌, true, false, List, [], ◌∷◌, ◌++◌, ℕ, ◌+◌, ◌*◌, ◌/◌, ◌%◌, ◌≤◌, ◌<◌, eqb, ltb, length}
use Rattle.std.specs.Int.Count.{count_trailing_zeros}
use Rattle.bits.specs.Little.{le_bytes}
use Rattle.blocks.specs.Stores.{Store}
use Rattle.frame.specs.Key.{stream_of_key}
use Rattle.rules.specs.Blocks.{need}
use Rattle.rules.specs.Limits.{sessions_max, gathered_max, interfaces_max, blocks_max, frame_payload}
use Rattle.rules.specs.Sound.{stream_fits}
use Rattle.rules.specs.Table.{Place, held}
use Rattle.rules.specs.Tests.{pick}
use Rattle.session.specs.declared.Session.{Session}
use Rattle.state.specs.Layout.{controls_at, times_at, free_of, key_at, count_at, expected_at, flags_at, time_at, blocks_of, gathered_at}
use Rattle.state.specs.Place.{one}
use Rattle.state.specs.inside.Ready.{Ready}

-- the session of place i, by value
unfoldable pub coded_at : List ℕ → ℕ → Session
coded_at m i = record { expected = expected_at m i; toggle = eqb (flags_at m i % 2) 1; time = time_at m i; follows = flags_at m i / 2; len = count_at m i }

-- its control fields and its time
abbrev pub code_stores : ℕ → Session → List Store
code_stores i c =
    record { at = controls_at + i * 4; bytes = le_bytes 2 c.len ++ (c.expected ∷ (one c.toggle + 2 * c.follows) ∷ []) }
    ∷ record { at = times_at + i * 8; bytes = le_bytes 8 c.time } ∷ []

-- a session that waits for a start
pub record Waits (m : List ℕ) (i k : ℕ) (c : Session) : Type 0 where
  pub ready : Ready m
  pub place : i < sessions_max
  pub stream : stream_fits (stream_of_key k) ≡ true
  pub expected : c.expected < 32
  pub follows : c.follows < interfaces_max
  pub toggle : c.toggle ≡ false
  pub len : c.len ≡ 0

-- the session of place i with the bytes p more in hand is c
pub record Grows (m : List ℕ) (i : ℕ) (c : Session) (p : List ℕ) : Type 0 where
  pub ready : Ready m
  pub place : i < sessions_max
  pub key : key_at m i ≡ 0 → ⊥
  pub len : c.len ≡ count_at m i + length p
  pub few : c.len ≤ gathered_max
  pub some : 0 < length p
  pub short : length p ≤ frame_payload
  pub expected : c.expected < 32
  pub follows : c.follows < interfaces_max
  pub block : need (count_at m i) < need c.len → count_trailing_zeros blocks_max (free_of m) < blocks_max

-- the blocks of n bytes in place i: one more, the lowest free, where those that it has are too few
abbrev pub grown_blocks : List ℕ → ℕ → ℕ → List ℕ
grown_blocks m i n = pick (ltb (need (count_at m i)) (need n)) (blocks_of m i ++ (count_trailing_zeros blocks_max (free_of m) ∷ [])) (blocks_of m i)

abbrev pub grown : List ℕ → ℕ → Session → List ℕ → Place
grown m i c p =
    held (stream_of_key (key_at m i))
    (record { expected = c.expected; gathered = gathered_at m i ++ p; toggle = c.toggle; since = c.time; follows = c.follows })
    (grown_blocks m i c.len)
