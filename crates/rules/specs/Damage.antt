-- RULES 14.16 to 14.18: how much damage is always caught, stated once over any machine of condition 3. A transfer of several frames whose payload is
-- altered by a burst (RULES 6.6) ends with 12, and nothing is handed out.
use Rattle.std.specs.Prelude.{◌≡◌, Bool, true, ◌&&◌, ◌||◌, List, [], ◌∷◌, ◌++◌, map, ℕ, suc, ◌+◌, ◌≤◌, ◌<◌, leb, eqb, length}
use Rattle.std.proofs.Math.Option.{some}
use Rattle.checksum.specs.Crc16.{checksum}
use Rattle.checksum.specs.Damage.{burst_max, Burst}
use Rattle.rules.specs.Answer.{differs}
use Rattle.rules.specs.Condition3.{Machine, start_of, All, Receiver, start_frame, frames, answers, took_start, While, Brings, handouts}
use Rattle.rules.specs.Frame.{Arrival, Stream, tail_of, is_end}
use Rattle.rules.specs.Limits.{frame_payload, payload_max, switch_delay}
use Rattle.rules.specs.Sent.{summed, sent, id_of}
use Rattle.rules.specs.SentLaws.{joined}
use Rattle.rules.specs.Setup.{Setup, signature_for}
use Rattle.rules.specs.Tests.{pick}

-- ── the premises ──

-- RULES 14.16: a receiver with any past takes a start of a stream with a named source, as in condition 3
pub record Opens (M : Machine) (d : Stream) (x : Receiver M) : Type 0 where
  pub past : M.Past x.state
  pub typed : All M.Typed (x.start ∷ x.list)
  pub named : 0 < d.source
  pub start : start_of d (start_frame M x).frame ≡ true
  pub take : took_start M x ≡ true

-- RULES 14.17: the payload p is sent in several frames with a priority and the transfer ID t; the start f and the stream's frames fs after it bring
-- these frames as a transfer's (14.11), but with the payload q
pub record Damaged (u : Setup) (d : Stream) (f : Arrival) (fs : List Arrival) (priority t : ℕ) (p q : List ℕ) : Type 0 where
  pub size : (frame_payload < length p) × (length p ≤ payload_max)
  -- correctly sent (14.10)
  pub fields : (priority < 32) × (t < 32)
  pub signature : ℕ
  pub subscribed : signature_for u (id_of d priority) ≡ some signature
  -- the frames as they arrive: tail bytes, lengths and checksum as sent
  pub arriving : List (List ℕ)
  pub tails : map tail_of arriving ≡ map tail_of (sent signature t p)
  pub lengths : map length arriving ≡ map length (sent signature t p)
  pub carried : joined arriving ≡ summed (checksum signature p) q
  pub burst : Burst burst_max p q
  pub brings : Brings f.interface (id_of d priority) (f.frame.time + switch_delay) arriving (f ∷ fs)

-- ── the claim (RULES 14.18) ──

-- an end that comes by interface i
abbrev pub end_by : ℕ → Arrival → Bool
end_by i a = eqb a.interface i && is_end (tail_of a.frame.bytes)

-- the place of the first, counted from 0
unfoldable pub end_at : ℕ → List Arrival → ℕ
end_at i [] = 0
end_at i (a ∷ fs) = pick (end_by i a) 0 (suc (end_at i fs))

-- what a frame by another interface answers: refused by a check (4.1), or passed over
abbrev pub elsewhere : ℕ → Bool
elsewhere n = (leb 2 n && leb n 7) || (eqb n 19 || eqb n 34)

-- by the start's interface: taken, or a repeat
abbrev pub before_end : ℕ → Bool
before_end n = eqb n 0 || (eqb n 31 || (eqb n 33 || elsewhere n))

-- by the start's interface: a repeat of the end
abbrev pub after_end : ℕ → Bool
after_end n = eqb n 30 || elsewhere n

pub record Caught (M : Machine) (d : Stream) (x : Receiver M) : Type 0 where
  -- the answers to the stream's frames, the start's first: that to the transfer's end, and those before and after it
  pub before : List M.Answer
  pub after : List M.Answer
  pub parts : answers M d x ≡ before ++ (M.shows differs ∷ after)
  -- the end is the first end by the start's interface
  pub end : length before ≡ end_at (start_frame M x).interface (start_frame M x ∷ frames M d x)
  pub number : M.number (M.shows differs) ≡ 12
  -- no answer is 1, and the others are these
  pub silent : handouts M (answers M d x) ≡ []
  pub others : All (λ a. before_end (M.number a) ≡ true) before × All (λ a. after_end (M.number a) ≡ true) after

-- for every setup, given the machine of each
abbrev pub BurstIsCaught : (Setup → Machine) → Type 0
BurstIsCaught machine =
    (u : Setup) (d : Stream) (x : Receiver (machine u)) → Opens (machine u) d x
    → (priority t : ℕ) (p q : List ℕ) → Damaged u d (start_frame (machine u) x) (frames (machine u) d x) priority t p q
    → While (machine u) d (length (frames (machine u) d x)) x → Caught (machine u) d x
