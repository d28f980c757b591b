-- RULES 18.5, 18.6: what holds of the two calls. `laws.rt` has a function for each record of laws, whose contract it is.
use Rattle.std.specs.Prelude.{◌≡◌, true, List, [], ◌∷◌, ◌++◌, ℕ, suc, ◌+◌, ◌*◌, ◌/◌, ◌^◌, ◌≤◌, ◌<◌, eqb, length, take, Ok}
use Rattle.std.proofs.Math.Option.{some}
use Rattle.bits.specs.Order.{Octets}
use Rattle.bits.specs.Part.{splice}
use Rattle.checksum.specs.Crc.{crc_over}
use Rattle.checksum.specs.Crc16.{ccitt}
use Rattle.digits.specs.Digits.{count_of}
use Rattle.rules.specs.Condition3.{All}
use Rattle.rules.specs.Frame.{Frame}
use Rattle.rules.specs.Tests.{pick}
use Rattle.log_line.specs.Line.{Carried}
use Rattle.capture_record.specs.Record.{record_size}
use Rattle.capture_convert.specs.Capture.{trailer_size, sum_of, records_of, capture_of, trailer_in, count_in, trailed, carried_all}
use Rattle.capture_convert.specs.Convert.{Result, captured, uncaptured}
use Rattle.capture_convert.specs.Log.{log_of, frames_of}

-- text at the front of a buffer
abbrev pub wrote : List ℕ → List ℕ → Result
wrote text out = record { answer = Ok (length text); out = splice out 0 text }

-- ── there and back (RULES 18.6) ──

pub record Trips : Type 0 where
  -- a log that is not refused returns, byte for byte
  pub log : (log out : List ℕ) (n : ℕ) → (captured log out).answer ≡ Ok n → (room : List ℕ) → length log ≤ length room
      → uncaptured (take n (captured log out).out) room ≡ wrote log room
  -- and so does a capture that has no preface
  pub capture : (c out : List ℕ) (n : ℕ) → Octets c → length c ≡ record_size * count_in (trailer_in c) + trailer_size → (uncaptured c out).answer ≡ Ok n
      → (room : List ℕ) → length c ≤ length room → captured (take n (uncaptured c out).out) room ≡ wrote c room
  -- logs that 18 lets through: the lines of any frames that a line can carry, and no others
  pub lines : (fs : List Frame) → All Carried fs → frames_of (log_of fs) ≡ some fs
  pub only : (log : List ℕ) (fs : List Frame) → frames_of log ≡ some fs → (log_of fs ≡ log) × All Carried fs
  -- a preface does not matter
  pub preface : (p c out : List ℕ) → trailed c ≡ true → uncaptured (p ++ c) out ≡ uncaptured c out

-- ── lengths (RULES 18.5) ──

-- how many line feeds there are
unfoldable pub feeds : List ℕ → ℕ
feeds [] = 0
feeds (b ∷ bs) = pick (eqb b 10) (suc (feeds bs)) (feeds bs)

unfoldable pub line_lengths : List Frame → ℕ
line_lengths [] = 0
line_lengths (f ∷ fs) = 14 + (3 * length f.bytes + (count_of (f.time / 1000000) + line_lengths fs))

pub record Lengths : Type 0 where
  pub capture : (log : List ℕ) (fs : List Frame) → frames_of log ≡ some fs → length (capture_of fs) ≡ record_size * feeds log + trailer_size
  pub log : (fs : List Frame) → length (log_of fs) ≡ line_lengths fs
  pub captures : (log out : List ℕ) (n : ℕ) → (captured log out).answer ≡ Ok n → n < 2 ^ 37
  pub logs : (c out : List ℕ) (n : ℕ) → Octets c → (uncaptured c out).answer ≡ Ok n → n < 2 ^ 38
  pub least : (n : ℕ) (b : List ℕ) (fs : List Frame) → carried_all n b ≡ some fs → 15 * n ≤ length (log_of fs)
  pub most : (n : ℕ) (b : List ℕ) (fs : List Frame) → carried_all n b ≡ some fs → length (log_of fs) ≤ 47 * n

-- ── part by part, as the programs work ──

pub record Parts : Type 0 where
  -- of a log whose first part ends with a line
  pub frames : (a b : List ℕ) (fs gs : List Frame) → frames_of a ≡ some fs → frames_of b ≡ some gs → frames_of (a ++ b) ≡ some (fs ++ gs)
  pub records : (fs gs : List Frame) → records_of (fs ++ gs) ≡ records_of fs ++ records_of gs
  pub sum : (a b : List ℕ) → sum_of (a ++ b) ≡ crc_over ccitt (sum_of a) b
  pub lines : (fs gs : List Frame) → log_of (fs ++ gs) ≡ log_of fs ++ log_of gs
  pub carried : (n m : ℕ) (a b : List ℕ) (fs gs : List Frame) → length a ≡ record_size * n → carried_all n a ≡ some fs → carried_all m b ≡ some gs
      → carried_all (n + m) (a ++ b) ≡ some (fs ++ gs)
