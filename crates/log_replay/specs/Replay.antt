-- RULES 12.5 to 12.7: what one line gives. It is read, its frame goes to the receiver, and the answer is written after the time.
use Rattle.std.specs.Prelude.{Bool, false, List, [], ◌∷◌, ◌++◌, ℕ, ◌+◌, ◌-◌, ◌^◌, ltb, eqb, replicate}
use Rattle.std.proofs.Math.Option.{Option, none, some}
use Rattle.log_line.specs.Line.{time_text}
use Rattle.rules.specs.Frame.{Frame, Arrival}
use Rattle.rules.specs.Limits.{payload_max}
use Rattle.rules.specs.Tests.{pick}
use Rattle.receiver.specs.Receive as receive
use Rattle.receiver.specs.Receive.{received}
use Rattle.log_replay.specs.declared.Counts.{Counts}
use Rattle.log_answer.specs.Answer.{numbered, answer_text}
use Rattle.answers.specs.Reception.{number_of}
use Rattle.answers.specs.declared.Answer.{Answer}
use Rattle.digits.specs.Digits.{words}

-- ── counting (RULES 12.6) ──

-- a counter stays at the largest number of 64 bits
unfoldable pub up : ℕ → ℕ
up n = pick (ltb n (2 ^ 64 - 1)) (n + 1) n

-- one more line, and with a payload one more transfer
unfoldable pub counted : Counts → Bool → Counts
counted c handed = record { lines = up c.lines; transfers = pick handed (up c.transfers) c.transfers }

abbrev pub is_handed : Answer → Bool
is_handed a = eqb (number_of a) 1

-- RULES 12.7, the last line: `end`, lines read, payloads handed out
unfoldable pub end_text : Counts → List ℕ
end_text c = 101 ∷ 110 ∷ 100 ∷ (words (c.lines ∷ c.transfers ∷ []) ++ (10 ∷ []))

-- ── one line ──

-- what a line gives: the text for it, the receiver's state after, and whether a transfer was handed out
pub record Reply : Type 0 where
  pub text : List ℕ
  pub state : List ℕ
  pub handed : Bool

unfoldable pub answered : ℕ → receive.Result → Reply
answered time r = record { text = time_text time ++ answer_text r.answer r.out; state = r.state; handed = is_handed r.answer }

-- RULES 12.1: a frame of a log comes by interface 0
abbrev pub logged : Frame → Arrival
logged f = record { frame = f; interface = 0 }

-- RULES 12.5: a line that is not well formed leaves the receiver as it was; 12.1: the receiver is lent 512 bytes
unfoldable pub reply : List ℕ → Option Frame → Reply
reply m none = record { text = 63 ∷ numbered 45 18; state = m; handed = false }
reply m (some f) = answered f.time (received m (logged f) (replicate payload_max 0))
