-- RULES 19.9: what the verdict says of a capture, and two definitions read once more. Each record is the contract of a function in src/lib.rt.
use Rattle.std.specs.Prelude.{◌≡◌, Bool, false, not, ◌&&◌, ◌||◌, List, [], ◌∷◌, ◌++◌, ◌↔◌, ℕ, suc, ◌+◌, ◌<◌, length, take}
use Rattle.bits.specs.Order.{Octets}
use Rattle.rules.specs.Check as receiver
use Rattle.rules.specs.Condition3.{All}
use Rattle.rules.specs.Frame.{Frame, Stream, same_stream, stream_of, is_anonymous}
use Rattle.rules.specs.Sent.{flag}
use Rattle.rules.specs.Setup.{Setup}
use Rattle.judge_rules.specs.Good.{frame_check, streams_in, Good, CouldPass}
use Rattle.judge_rules.specs.Verdict.{pass, fail, verdict}

-- every data byte is below 256
abbrev pub Bytes : List Frame → Type 0
Bytes l = All (λ f. Octets f.bytes) l

pub record JudgeLaws : Type 0 where
  -- it passes exactly what is good
  pub passes : (u : Setup) (l : List Frame) → Bytes l → (verdict u l ≡ pass) ↔ Good u l
  -- each beginning of a capture that passes passes, so that a capture could pass exactly if it does
  pub beginning : (u : Setup) (l more : List Frame) → Bytes l → Good u (l ++ more) → Good u l
  pub could : (u : Setup) (l : List Frame) → Bytes l → CouldPass u l ↔ Good u l
  -- a failure names the first frame, counted from 0, after which no continuation could pass
  pub first : (u : Setup) (l : List Frame) (n i : ℕ) → Bytes l → verdict u l ≡ fail n i
      → (i < length l) × (CouldPass u (take i l) × (CouldPass u (take (suc i) l) → ⊥))
  -- and where there is such a frame, it is named
  pub named : (u : Setup) (l : List Frame) (i : ℕ) → Bytes l → i < length l → CouldPass u (take i l) → (CouldPass u (take (suc i) l) → ⊥)
      → (n : ℕ) × (verdict u l ≡ fail n i)

-- ── two definitions read once more ──

-- how often a stream stands in a list
unfoldable pub count : Stream → List Stream → ℕ
count d [] = 0
count d (e ∷ ds) = flag (same_stream e d) + count d ds

-- a frame of the stream that is not anonymous is there
unfoldable pub appears : Stream → List Frame → Bool
appears d [] = false
appears d (f ∷ l) = (not (is_anonymous f.id) && same_stream (stream_of f.id) d) || appears d l

pub record Readings : Type 0 where
  -- each stream that appears is counted once, and no other
  pub once : (l : List Frame) (d : Stream) → count d (streams_in [] l) ≡ flag (appears d l)
  -- the checks are those of a receiver that the frame is for, by interface 0
  pub check : (u : Setup) (f : Frame)
      → frame_check u f
      ≡ receiver.frame_check (record { own = (stream_of f.id).destination; subscriptions = u.subscriptions }) (record { frame = f; interface = 0 })
