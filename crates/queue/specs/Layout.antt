-- RULES 20.4, 20.5: a queue in lent bytes: its layout, its view, the test for 20, and what is written. Numbers are low byte first; bytes past the places are not read.
use Rattle.std.specs.Prelude.{Bool, ◌&&◌, List, [], ◌∷◌, ◌++◌, ℕ, zero, suc, ◌+◌, ◌*◌, ◌-◌, ◌/◌, leb, length}
use Rattle.bits.specs.Little.{le, le_bytes}
use Rattle.bits.specs.Part.{span, splice}
use Rattle.bits.specs.Tabulate.{tabulate}
use Rattle.rules.specs.Limits.{frame_record}
use Rattle.queue.specs.Queue.{Record, in_order}

-- ── where each part starts; src/layout.rt has the same for the code ──

-- the number of records, and the records: the one that goes last at place 0
abbrev pub count_at : ℕ
count_at = 0

abbrev pub records_at : ℕ
records_at = count_at + 8

-- the places in n bytes
unfoldable pub capacity : ℕ → ℕ
capacity n = (n - records_at) / frame_record

-- ── the view ──

unfoldable pub count_of : List ℕ → ℕ
count_of m = le (span m count_at 8)

abbrev pub record_at : List ℕ → ℕ → Record
record_at m i = span m (records_at + i * frame_record) frame_record

-- the first n places, the last one first
unfoldable pub queued : List ℕ → ℕ → List Record
queued m zero = []
queued m (suc n) = record_at m n ∷ queued m n

abbrev pub queue_of : List ℕ → List Record
queue_of m = queued m (count_of m)

-- RULES 20.5: no fault
unfoldable pub sound_queue : List ℕ → Bool
sound_queue m = leb records_at (length m) && (leb (count_of m) (capacity (length m)) && in_order (queue_of m))

-- ── records that are put ──

abbrev pub given : List ℕ → ℕ → Record
given p i = span p (i * frame_record) frame_record

abbrev pub records_of : List ℕ → List Record
records_of p = tabulate (given p) 0 (length p / frame_record)

-- ── writing ──

-- the bytes of a queue's records
unfoldable pub stored : List Record → List ℕ
stored [] = []
stored (r ∷ q) = stored q ++ r

-- m with the queue q: the bytes after its last place stay
unfoldable pub holding : List ℕ → List Record → List ℕ
holding m q = splice (splice m records_at (stored q)) count_at (le_bytes 8 (length q))
