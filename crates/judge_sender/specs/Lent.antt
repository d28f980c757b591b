-- RULES 19.10: a run of `send` on lent bytes passes: the call on the bytes of its capture answers 0.
use Rattle.std.specs.Prelude.{◌≡◌, true, Ok, List, ℕ, ◌^◌, ◌<◌, length}
use Rattle.answers.specs.Sending.{number_of, dispatch_in}
use Rattle.bits.specs.Order.{Octets}
use Rattle.capture_convert.specs.Capture.{capture_of}
use Rattle.judge_capture.specs.Judge.{judges}
use Rattle.judge_sender.specs.Runs.{Send, Gives, recorded, sent_from, Run}
use Rattle.rules.specs.Condition3.{All}
use Rattle.sender.specs.Send.{Result, sends}
use Rattle.setup.specs.Setup.{given, accepted}

-- what a call gives: its records are read back from the output buffer
abbrev pub shown : ℕ → Result → Gives (List ℕ)
shown time r = record { number = number_of r.answer; frames = recorded time r.out (dispatch_in r.answer).frames; state = r.map }

abbrev pub on_bytes : List ℕ → Send → Gives (List ℕ)
on_bytes m s = shown s.call.time (sends m s.call s.out)

-- of bytes m, and times of 64 bits; a map at fault answers 20 to each call, so that nothing is sent
pub record SenderLaws : Type 0 where
  pub passes : (s : List ℕ) (own : ℕ) (m : List ℕ) (l : List Send) → accepted 0 s ≡ true → Octets m → All (λ x. x.call.time < 2 ^ 64) l
      → Run on_bytes (given 0 s) own m l → length (sent_from on_bytes m l) < 2 ^ 32 → judges s (capture_of (sent_from on_bytes m l)) ≡ Ok tt
