-- RULES 19.8: the table of streams in words, as the pass with little memory sees it.
use Rattle.std.specs.Prelude.{◌≡◌, false, Option, Some, None, Result, Ok, Err, List, ℕ, suc, ◌+◌, ◌*◌, ◌/◌, ◌%◌, ◌≤◌, ◌<◌, ltb, length, get_or}
use Rattle.std.proofs.Math.Option.{none}
use Rattle.bits.specs.Tabulate.{tabulate}
use Rattle.judge_rules.specs.Good.{add}
use Rattle.judge_rules.specs.Limits.{streams_max}
use Rattle.judge_rules.specs.Verdict.{Seen, Entry, streams, state_of, Judging, on, off, entered}
use Rattle.judge_rules.specs.inside.Brief.{Brief, rests, goes_on}
use Rattle.judge_stream.specs.inside.Kept as frame
use Rattle.judge_stream.specs.inside.Kept.{Step, brief_in, InRange, Passed}
use Rattle.judge_stream.specs.declared.Condition.{Condition}
use Rattle.judge_stream.specs.declared.Kept.{Kept}
use Rattle.judge_stream.specs.declared.Seen as declared
use Rattle.rules.specs.Frame.{Stream, stream_of, is_anonymous}
use Rattle.rules.specs.Tests.{pick, bit}

-- ── the words ──

abbrev pub count_at : ℕ
count_at = 0

abbrev pub ids_at : ℕ
ids_at = 1

abbrev pub starts_at : ℕ
starts_at = 1 + streams_max

abbrev pub progress_at : ℕ
progress_at = 1 + 2 * streams_max

abbrev pub table_size : ℕ
table_size = 1 + 3 * streams_max

-- what is kept of a stream, in three words
unfoldable pub kept_of : ℕ → ℕ → ℕ → Kept
kept_of id since w =
    record {
      id = id % 4294967296;
      since = since;
      transfer = w % 32;
      toggle = bit w 32;
      count = w / 64 % 1024;
      sum = w / 65536 % 65536;
      register = w / 4294967296 % 65536;
    }

abbrev pub kept_at : List ℕ → ℕ → Kept
kept_at t j = kept_of (get_or t (ids_at + j) 0) (get_or t (starts_at + j) 0) (get_or t (progress_at + j) 0)

-- ── the table ──

pub record Table (t : List ℕ) : Type 0 where
  pub long : length t ≡ table_size
  pub few : get_or t count_at 0 ≤ streams_max

abbrev pub entry_of : Kept → Entry Brief
entry_of k = record { stream = stream_of k.id; state = brief_in k }

unfoldable pub entries_of : List ℕ → List (Entry Brief)
entries_of t = tabulate (λ j. entry_of (kept_at t j)) 0 (get_or t count_at 0)

-- the lowest place of an ID's stream among n, or n: bits 0 to 23 of an ID with a named source are its stream
pub record Found (t : List ℕ) (n id j : ℕ) : Type 0 where
  pub within : j ≤ n
  pub before : (i : ℕ) → i < j → get_or t (ids_at + i) 0 % 16777216 ≡ id % 16777216 → ⊥
  pub here : j < n → get_or t (ids_at + j) 0 % 16777216 ≡ id % 16777216

-- k is at place j, and there are n places
pub record Stored (t : List ℕ) (j n : ℕ) (k : Kept) (t' : List ℕ) : Type 0 where
  pub long : length t' ≡ table_size
  pub count : get_or t' count_at 0 ≡ n
  pub here : kept_at t' j ≡ k
  pub others : (i : ℕ) → i < streams_max → (i ≡ j → ⊥) → kept_at t' i ≡ kept_at t i

abbrev pub Ranged : Step → Type 0
Ranged (Ok k) = InRange k
Ranged (Err e) = Unit {0}

-- what a frame does: nothing is wrong so far, or the condition that it fails
abbrev pub Turn : Type 0
Turn = Result (Unit {0}) Condition

abbrev pub Puts : List ℕ → ℕ → ℕ → Step → Turn → List ℕ → Type 0
Puts t j n (Ok k) r t' = (r ≡ Ok tt) × Stored t j n k t'
Puts t j n (Err e) r t' = (r ≡ Err e) × (t' ≡ t)

-- ── one frame ──

abbrev pub told : ℕ → Turn → List ℕ → Judging Brief
told i (Ok u) t = on (suc i) (entries_of t)
told i (Err e) t = off e.0 i

abbrev pub Stays : Turn → List ℕ → List ℕ → Type 0
Stays (Ok u) t t' = Unit {0}
Stays (Err e) t t' = t' ≡ t

-- frame i does what J says; one that fails leaves the table as it was
pub record Turns (J : ℕ → Judging Brief) (t : List ℕ) (r : Turn) (t' : List ℕ) : Type 0 where
  pub next : (i : ℕ) → told i r t' ≡ J i
  pub table : Table t'
  pub stays : Stays r t t'

-- frame i, of the stream d, under its signature
abbrev pub entering : ℕ → Stream → List (Entry Brief) → Seen → ℕ → Judging Brief
entering signature d st v i =
    pick (ltb streams_max (length (add d (streams st)))) (off 9 i) (entered i d st (goes_on signature d (state_of (rests none) d st) v))

-- a frame that passed the checks, of a stream with a named source
pub record Enters (v : declared.Seen) (p : List ℕ) : Type 0 where
  pub passed : Passed v p
  pub stream : frame.stream_of v ≡ stream_of v.id
  pub named : is_anonymous v.id ≡ false

-- what is kept of a stream
abbrev pub expected_in : Option Kept → Brief
expected_in None = rests none
expected_in (Some k) = brief_in k
