-- RULES 18.2 to 18.4: what the code's walks over lines and records leave, and what it reads of a trailer.
use Rattle.std.specs.Prelude.{◌≡◌, true, List, ℕ, ◌+◌, ◌*◌, ◌-◌, ◌/◌, ◌^◌, ◌≤◌, ◌<◌, length, drop}
use Rattle.std.proofs.Math.Option.{none, some}
use Rattle.bits.specs.Little.{le}
use Rattle.bits.specs.Part.{span, splice}
use Rattle.rules.specs.Frame.{Frame}
use Rattle.log_line.specs.Lines.{cut}
use Rattle.capture_record.specs.Record.{record_size}
use Rattle.capture_convert.specs.Capture.{trailer_size, records_of, trailer_in, count_in, formed, trailed, carried_all}
use Rattle.capture_convert.specs.Log.{log_of, said_all, frames_of}
use Rattle.capture_convert.specs.declared.records.Ran as ran
use Rattle.capture_convert.specs.declared.trailer.Trailer as trailer

-- ── lines ──

-- a whole log of n well-formed lines
pub record Walked (p : List ℕ) (n : ℕ) : Type 0 where
  pub frames : List Frame
  pub read : frames_of p ≡ some frames
  pub count : n ≡ length frames
  pub lines : length frames ≡ length (cut p).whole

-- the lines of a block that have their line feed: all are well formed
pub record Recorded (p out₀ : List ℕ) (r : ran.Ran) (out : List ℕ) : Type 0 where
  pub frames : List Frame
  pub said : said_all (cut p).whole ≡ some frames
  pub count : r.count ≡ length frames
  pub rest : (cut p).rest ≡ drop r.from p
  pub text : out ≡ splice out₀ 0 (records_of frames)
  pub from : r.from ≤ length p
  pub room : record_size * r.count ≤ length out

-- one is not, and n come before it
pub record Broken (p : List ℕ) (n : ℕ) (out : List ℕ) : Type 0 where
  pub said : said_all (cut p).whole ≡ none
  pub room : record_size * n ≤ length out

-- ── records ──

abbrev pub count_of : List ℕ → ℕ
count_of b = length b / record_size

-- lines can carry the records, and these have n characters
pub record Measured (b : List ℕ) (n : ℕ) : Type 0 where
  pub frames : List Frame
  pub carried : carried_all (count_of b) b ≡ some frames
  pub len : n ≡ length (log_of frames)

-- no line can carry one of them
abbrev pub Halted : List ℕ → Type 0
Halted b = carried_all (count_of b) b ≡ none

-- lines can carry the records, and there is room for the lines
pub record Prints (b : List ℕ) (space : ℕ) : Type 0 where
  pub frames : List Frame
  pub carried : carried_all (count_of b) b ≡ some frames
  pub room : length (log_of frames) ≤ space

pub record Lined (b out₀ : List ℕ) (r : ℕ) (out : List ℕ) : Type 0 where
  pub text : (fs : List Frame) → carried_all (count_of b) b ≡ some fs → out ≡ splice out₀ 0 (log_of fs)
  pub len : (fs : List Frame) → carried_all (count_of b) b ≡ some fs → r ≡ length (log_of fs)
  pub within : r ≤ length out

-- ── the trailer ──

-- mark and distance are right
pub record Read (t : List ℕ) (r : trailer.Trailer) : Type 0 where
  pub ok : formed t ≡ true
  pub count : r.count ≡ count_in t
  pub sum : r.sum ≡ le (span t 12 2)
  pub few : r.count < 2 ^ 32

-- the trailer is right, and the first record begins at `from`
pub record Located (c : List ℕ) (from : ℕ) : Type 0 where
  pub right : trailed c ≡ true
  pub start : from ≡ length c - trailer_size - record_size * count_in (trailer_in c)
  pub end : from + record_size * count_in (trailer_in c) + trailer_size ≡ length c
  pub few : count_in (trailer_in c) < 2 ^ 32
