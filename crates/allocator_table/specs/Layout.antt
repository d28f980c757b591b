-- RULES 16.9, 16.10: the state of an allocator in lent bytes: its layout, its view, the test for 20, and what is written. Numbers are low byte first; bytes past the
-- layout are not read.
use Rattle.std.specs.Prelude.{Bool, ◌&&◌, List, ℕ, suc, ◌+◌, ◌*◌, ◌-◌, leb, ltb, length}
use Rattle.bits.specs.Little.{le, le_bytes}
use Rattle.bits.specs.Part.{span, splice}
use Rattle.bits.specs.Tabulate.{tabulate}
use Rattle.allocator_table.specs.Limits.{unique_id_max, node_max}
use Rattle.allocator_table.specs.Table.{Entry, entry, place_for, sound}

-- ── where each part starts; src/layout.rt has the same for the code ──

-- time of the last message processed, numbers of gathered bytes and of entries, gathered bytes, entries
abbrev pub time_at : ℕ
time_at = 0

abbrev pub gathered_count_at : ℕ
gathered_count_at = time_at + 8

abbrev pub entry_count_at : ℕ
entry_count_at = gathered_count_at + 1

abbrev pub gathered_at : ℕ
gathered_at = entry_count_at + 1

abbrev pub entries_at : ℕ
entries_at = gathered_at + unique_id_max

-- an entry: a unique ID and a node ID
abbrev pub entry_size : ℕ
entry_size = unique_id_max + 1

-- the bytes of the whole layout
abbrev pub size : ℕ
size = entries_at + node_max * entry_size

-- ── the view ──

unfoldable pub time_of : List ℕ → ℕ
time_of m = le (span m time_at 8)

unfoldable pub gathered_count : List ℕ → ℕ
gathered_count m = le (span m gathered_count_at 1)

unfoldable pub entry_count : List ℕ → ℕ
entry_count m = le (span m entry_count_at 1)

unfoldable pub unique_at : List ℕ → ℕ → ℕ
unique_at m i = le (span m (entries_at + i * entry_size) unique_id_max)

unfoldable pub node_at : List ℕ → ℕ → ℕ
node_at m i = le (span m (entries_at + i * entry_size + unique_id_max) 1)

abbrev pub entry_at : List ℕ → ℕ → Entry
entry_at m i = entry (unique_at m i) (node_at m i)

unfoldable pub table_of : List ℕ → List Entry
table_of m = tabulate (entry_at m) 0 (entry_count m)

-- RULES 16.10: no fault
unfoldable pub sound_state : List ℕ → Bool
sound_state m = leb size (length m) && (ltb (gathered_count m) unique_id_max && (leb (entry_count m) node_max && sound (table_of m)))

-- ── writing ──

unfoldable pub with_time : List ℕ → ℕ → List ℕ
with_time m t = splice m time_at (le_bytes 8 t)

-- the first n of the gathered bytes are kept
unfoldable pub with_count : List ℕ → ℕ → List ℕ
with_count m n = splice m gathered_count_at (le_bytes 1 n)

unfoldable pub with_gathered : List ℕ → List ℕ → List ℕ
with_gathered m g = splice (with_count m (length g)) gathered_at g

-- the entries from place p on one place up
unfoldable pub opened : List ℕ → ℕ → List ℕ
opened m p = splice m (entries_at + suc p * entry_size) (span m (entries_at + p * entry_size) ((entry_count m - p) * entry_size))

-- one entry more, at place p: the unique ID u, 16 bytes, and the node ID n
unfoldable pub with_entry_at : List ℕ → ℕ → List ℕ → ℕ → List ℕ
with_entry_at m p u n =
    splice (splice (splice (opened m p) (entries_at + p * entry_size) u) (entries_at + p * entry_size + unique_id_max) (le_bytes 1 n)) entry_count_at (le_bytes 1 (suc (entry_count m)))

-- where it belongs
unfoldable pub with_entry : List ℕ → List ℕ → ℕ → List ℕ
with_entry m u n = with_entry_at m (place_for (le u) (table_of m)) u n
