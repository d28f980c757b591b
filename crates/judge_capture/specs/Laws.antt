-- RULES 19.9, 19.10: what holds of the call. `laws.rt` has a function for each record of laws, whose contract it is.
use Rattle.std.specs.Prelude.{◌≡◌, true, Ok, List, ◌∷◌, ◌++◌, ◌↔◌, ℕ, suc, ◌^◌, ◌≤◌, ◌<◌, length, take}
use Rattle.bits.specs.Order.{Octets}
use Rattle.capture_convert.specs.Capture.{capture_of, trailed}
use Rattle.capture_record.specs.Record as capture
use Rattle.capture_record.specs.Record.{record_size, size_of}
use Rattle.judge_rules.specs.Good.{Good, CouldPass}
use Rattle.judge_rules.specs.Numbers.{Reason}
use Rattle.judge_rules.specs.Sender.{Send, sent_from, Run}
use Rattle.rules.specs.Condition3.{All}
use Rattle.rules.specs.Frame.{Frame}
use Rattle.rules.specs.Limits.{frame_data}
use Rattle.rules.specs.Map.{Map}
use Rattle.setup.specs.Setup.{given, accepted}
use Rattle.judge_capture.specs.Answer.{number_of, fails_at}
use Rattle.judge_capture.specs.Judge.{frames_in, judges}
use Rattle.judge_capture.specs.Record.{frame_told}

-- subscriptions that 13 does not refuse, and a capture that 22 does not
pub record Fit (s c : List ℕ) : Type 0 where
  pub subscriptions : accepted 0 s ≡ true
  pub bytes : Octets c
  pub trailer : trailed c ≡ true

pub record VerdictLaws : Type 0 where
  -- the number is 0 exactly if the frames pass
  pub passes : (s c : List ℕ) → Fit s c → (number_of (judges s c) ≡ 0) ↔ Good (given 0 s) (frames_in c)
  -- a failure names the first frame, counted from 0, after which no continuation could pass
  pub first : (s c : List ℕ) (n i : ℕ) → Fit s c → judges s c ≡ fails_at n i
      → (i < length (frames_in c)) × (CouldPass (given 0 s) (take i (frames_in c)) × (CouldPass (given 0 s) (take (suc i) (frames_in c)) → ⊥))
  -- and where there is such a frame, it is named
  pub named : (s c : List ℕ) (i : ℕ) → Fit s c → i < length (frames_in c) → CouldPass (given 0 s) (take i (frames_in c))
      → (CouldPass (given 0 s) (take (suc i) (frames_in c)) → ⊥) → (n : ℕ) × (judges s c ≡ fails_at n i)
  -- what the number means
  pub reason : (s c : List ℕ) (a : List Frame) (f : Frame) (more : List Frame) (n : ℕ) → Fit s c → frames_in c ≡ a ++ f ∷ more
      → judges s c ≡ fails_at n (length a) → Reason (given 0 s) a f n
  -- the numbers are 0 to 24
  pub range : (s c : List ℕ) → Octets c → number_of (judges s c) ≤ 24

-- a frame that a record can hold
pub record Held (f : Frame) : Type 0 where
  pub id : f.id < 2 ^ 32
  pub time : f.time < 2 ^ 64
  pub few : length f.bytes ≤ frame_data

pub record FrameLaws : Type 0 where
  -- a record with up to 8 data bytes is the frame of RULES 18.1
  pub short : (r : List ℕ) → length r ≡ record_size → size_of r ≤ frame_data → frame_told r ≡ capture.frame_of r
  -- the capture of frames has these frames
  pub frames : (fs : List Frame) → All Held fs → length fs < 2 ^ 32 → (trailed (capture_of fs) ≡ true) × (frames_in (capture_of fs) ≡ fs)
  -- a preface does not matter
  pub preface : (s p c : List ℕ) → trailed c ≡ true → judges s (p ++ c) ≡ judges s c

-- the capture of a run of our sender passes
pub record SenderLaws : Type 0 where
  pub passes : (s : List ℕ) (own : ℕ) (m : Map) (l : List Send) → accepted 0 s ≡ true → Run (given 0 s) own m l → All (λ f. f.time < 2 ^ 64) (sent_from m l)
      → length (sent_from m l) < 2 ^ 32 → judges s (capture_of (sent_from m l)) ≡ Ok tt
