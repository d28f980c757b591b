-- RULES 19.3, 19.8: what one record does, and what a block of records does.
use Rattle.std.specs.Prelude.{◌≡◌, Result, Ok, Err, List, ℕ, suc, ◌+◌, ◌/◌, ◌<◌, length}
use Rattle.capture_record.specs.Record.{record_size}
use Rattle.judge_rules.specs.Good.{signature_of}
use Rattle.judge_rules.specs.Verdict.{Seen, Entry, Judging, on, off, run}
use Rattle.judge_rules.specs.inside.Brief.{Brief, summing}
use Rattle.judge_stream.specs.inside.Kept as frame
use Rattle.judge_stream.specs.inside.Kept.{Passed}
use Rattle.judge_stream.specs.declared.Seen as declared
use Rattle.judge_streams.specs.inside.Table.{Table, entries_of, entering}
use Rattle.rules.specs.Frame.{Stream, stream_of, unnamed}
use Rattle.rules.specs.Setup.{Setup, subscribed, kind_of}
use Rattle.rules.specs.Tests.{pick, is_none}
use Rattle.judge_capture.specs.Record.{frames_told}
use Rattle.judge_capture.specs.declared.records.Failure.{Failure}

-- ── one record ──

-- frame i, which passed the checks 2 to 5
abbrev pub admitting : Setup → Stream → List (Entry Brief) → Seen → ℕ → Judging Brief
admitting u d st v i =
    pick (is_none (subscribed (kind_of d) d.type u.subscriptions)) (off 7 i)
    (pick (unnamed d) (on (suc i) st) (entering (signature_of u d) d st v i))

pub record Admits (v : declared.Seen) (p : List ℕ) : Type 0 where
  pub passed : Passed v p
  pub stream : frame.stream_of v ≡ stream_of v.id

-- ── a block of records ──

abbrev pub count_of : List ℕ → ℕ
count_of b = length b / record_size

-- nothing is wrong so far, or which record fails
abbrev pub Fed : Type 0
Fed = Result (Unit {0}) Failure

-- after the records of a block, of which the first is frame i
abbrev pub fed_from : ℕ → ℕ → Fed → List ℕ → Judging Brief
fed_from i n (Ok u) t = on (i + n) (entries_of t)
fed_from i n (Err f) t = off f.condition.0 (i + f.index)

-- the record that fails, if any, is one of them; the table is as the records before it left it
abbrev pub Before : Setup → List ℕ → List ℕ → Fed → List ℕ → Type 0
Before u t b (Ok fine) t' = Unit {0}
Before u t b (Err f) t' = (f.index < count_of b) × ((i : ℕ) → run summing u (on i (entries_of t)) (frames_told f.index b) ≡ on (i + f.index) (entries_of t'))

pub record Feeds (u : Setup) (t b : List ℕ) (r : Fed) (t' : List ℕ) : Type 0 where
  pub next : (i : ℕ) → fed_from i (count_of b) r t' ≡ run summing u (on i (entries_of t)) (frames_told (count_of b) b)
  pub table : Table t'
  pub before : Before u t b r t'
