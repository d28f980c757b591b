-- RULES 19.7: the number of a failure, by the transfers of Good.antt and not by what the pass keeps.
use Rattle.std.specs.Prelude.{◌≡◌, true, false, List, [], ◌∷◌, ◌++◌, ℕ, ◌*◌, ◌≤◌, ◌<◌, length, take}
use Rattle.std.proofs.Math.Option.{none, some}
use Rattle.bits.specs.Order.{odd}
use Rattle.rules.specs.Frame.{Frame, Stream, stream_of, is_anonymous, tail_of, payload_of, is_start, is_end, toggle_of, transfer_of}
use Rattle.rules.specs.Limits.{frame_payload, gathered_max}
use Rattle.rules.specs.Sent.{carried, id_of}
use Rattle.rules.specs.Session.{sum_ok}
use Rattle.rules.specs.Setup.{Setup}
use Rattle.judge_rules.specs.Good.{Transfer, data_of, Series, all_frames, signature_of, frame_check, of_stream, streams_in, Good}
use Rattle.judge_rules.specs.Laws.{Bytes}
use Rattle.judge_rules.specs.Limits.{streams_max}
use Rattle.judge_rules.specs.Verdict.{fail, verdict}

-- it has more frames than are seen
abbrev pub Cut : ℕ → Transfer → Type 0
Cut signature x = length x.times < length (data_of signature x)

-- what those that are seen carry
abbrev pub brought : ℕ → Transfer → List ℕ
brought signature x = take (frame_payload * length x.times) (carried signature x.payload)

-- The frames fs of the stream d end with a transfer that is cut short, and f continues it: it is no start, and has the ID, the transfer ID and the toggle
-- of the frame that comes next.
pub record GoesOn (signature : ℕ) (d : Stream) (fs : List Frame) (f : Frame) : Type 0 where
  pub before : List Transfer
  pub transfer : Transfer
  pub series : Series signature d none (before ++ transfer ∷ [])
  pub frames : fs ≡ all_frames signature d (before ++ transfer ∷ [])
  pub cut : Cut signature transfer
  pub start : is_start (tail_of f.bytes) ≡ false
  pub id : f.id ≡ id_of d transfer.priority
  pub number : transfer_of (tail_of f.bytes) ≡ transfer.transfer
  pub toggle : toggle_of (tail_of f.bytes) ≡ odd (length transfer.times)

-- ── the frame f after the capture a ──

-- it continues a transfer of its stream
abbrev pub On : Setup → List Frame → Frame → Type 0
On u a f = GoesOn (signature_of u (stream_of f.id)) (stream_of f.id) (of_stream (stream_of f.id) a) f

-- what the frames of the transfer x carry, f included
abbrev pub brought_with : Setup → Frame → Transfer → List ℕ
brought_with u f x = brought (signature_of u (stream_of f.id)) x ++ payload_of f.bytes

-- the first two bytes of that are the checksum of the others
abbrev pub SumOk : Setup → Frame → Transfer → Type 0
SumOk u f x = sum_ok (signature_of u (stream_of f.id)) (brought_with u f x) ≡ true

-- it passes the checks and is of a stream, which is not one too many
pub record Counted (u : Setup) (a : List Frame) (f : Frame) : Type 0 where
  pub checks : frame_check u f ≡ none
  pub named : is_anonymous f.id ≡ false
  pub few : length (streams_in [] (a ++ f ∷ [])) ≤ streams_max

pub data Reason (u : Setup) (a : List Frame) (f : Frame) : ℕ → Type 0 where
  -- 2 to 5 and 7
  check : {n : ℕ} → frame_check u f ≡ some n → Reason u a f n
  stream : frame_check u f ≡ none → is_anonymous f.id ≡ false → streams_max < length (streams_in [] (a ++ f ∷ [])) → Reason u a f 9
  long : Counted u a f → (g : On u a f) → gathered_max < length (brought_with u f g.transfer) → Reason u a f 11
  differs : Counted u a f → (g : On u a f) → length (brought_with u f g.transfer) ≤ gathered_max → is_end (tail_of f.bytes) ≡ true
      → (SumOk u f g.transfer → ⊥) → Reason u a f 12
  -- neither 11 nor 12
  other : Counted u a f
      → ((g : On u a f) → (length (brought_with u f g.transfer) ≤ gathered_max) × (is_end (tail_of f.bytes) ≡ true → SumOk u f g.transfer))
      → Reason u a f 24

pub record NumberLaws : Type 0 where
  -- a failure's number has its reason at the frame that is named
  pub reason : (u : Setup) (a : List Frame) (f : Frame) (more : List Frame) (n : ℕ) → Bytes (a ++ f ∷ more) → verdict u (a ++ f ∷ more) ≡ fail n (length a)
      → Reason u a f n
  -- and after a capture that passes there is a reason for one number alone
  pub only : (u : Setup) (a : List Frame) (f : Frame) (m n : ℕ) → Good u a → Reason u a f m → Reason u a f n → m ≡ n
