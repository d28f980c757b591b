-- RULES 8.1, 8.5: the layout of a map in lent bytes, and its view as the rules' map. Numbers are low byte first; bytes past it are not read.
use Rattle.std.specs.Prelude.{List, [], ◌∷◌, ℕ, suc, ◌+◌, ◌*◌, ◌-◌, ◌/◌, ◌%◌, eqb, get_or}
use Rattle.bits.specs.Little.{le, le_bytes}
use Rattle.bits.specs.Part.{span, splice}
use Rattle.bits.specs.Tabulate.{tabulate}
use Rattle.rules.specs.Limits.{entries_max}
use Rattle.rules.specs.Map.{Topic, Slot, free, used, Map}
use Rattle.rules.specs.Tests.{pick}

-- ── where each part starts; src/layout.rt has the same for the code ──

-- keys, times of the last send, and next transfer IDs of the entries
abbrev pub keys_at : ℕ
keys_at = 0

abbrev pub times_at : ℕ
times_at = keys_at + entries_max * 4

abbrev pub nexts_at : ℕ
nexts_at = times_at + entries_max * 8

-- the bytes of the whole layout
abbrev pub size : ℕ
size = nexts_at + entries_max

-- ── the view ──

unfoldable pub key_at : List ℕ → ℕ → ℕ
key_at m i = le (span m (keys_at + i * 4) 4)

unfoldable pub time_at : List ℕ → ℕ → ℕ
time_at m i = le (span m (times_at + i * 8) 8)

unfoldable pub next_at : List ℕ → ℕ → ℕ
next_at m i = get_or m (nexts_at + i) 0

-- an entry's key; 0 is an empty place
unfoldable pub key_of : Topic → ℕ
key_of k = (k.transfer_type * 65536 + k.type) * 256 + (k.destination * 2 + 1)

-- RULES 8.5: an even key has a destination out of range
unfoldable pub topic_of_key : ℕ → Topic
topic_of_key k = record { transfer_type = k / 16777216; type = k / 256 % 65536; destination = k / 2 % 128 + 128 * (1 - k % 2) }

unfoldable pub slot_at : List ℕ → ℕ → Slot
slot_at m i = pick (eqb (key_at m i) 0) free (used (topic_of_key (key_at m i)) (next_at m i) (time_at m i))

unfoldable pub map_of : List ℕ → Map
map_of m = tabulate (slot_at m) 0 entries_max

-- ── writing ──

-- an empty place has key 0; its other bytes stay as they were
unfoldable pub with_slot : List ℕ → ℕ → Slot → List ℕ
with_slot m i free = splice m (keys_at + i * 4) (le_bytes 4 0)
with_slot m i (used k t since) = splice (splice (splice m (keys_at + i * 4) (le_bytes 4 (key_of k))) (times_at + i * 8) (le_bytes 8 since)) (nexts_at + i) (t ∷ [])

-- the places from i on
unfoldable pub written : List ℕ → ℕ → Map → List ℕ
written m i [] = m
written m i (s ∷ more) = written (with_slot m i s) (suc i) more
