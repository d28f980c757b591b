-- RULES 19.10: runs of calls to send, stated over any sender.
use Rattle.std.specs.Prelude.{◌≡◌, List, [], ◌∷◌, ◌++◌, ℕ, ◌≤◌, eqb, length}
use Rattle.bits.specs.Tabulate.{tabulate}
use Rattle.judge_rules.specs.Good.{streams_in}
use Rattle.judge_rules.specs.Limits.{streams_max}
use Rattle.judge_rules.specs.Sender.{Proper}
use Rattle.rules.specs.Frame.{Frame}
use Rattle.rules.specs.Sending.{Call}
use Rattle.rules.specs.SendingLaws.{frame_in}
use Rattle.rules.specs.Setup.{Setup}
use Rattle.rules.specs.Tests.{pick}

-- a call (RULES 7.1), and the output buffer that it is lent
pub record Send : Type 0 where
  pub call : Call
  pub out : List ℕ

-- what a call gives on a state S: its number, the frames of the records that it writes, and the state for the next call
pub record Gives (S : Type 0) : Type 0 where
  pub number : ℕ
  pub frames : List Frame
  pub state : S

-- the frames of n records at the front of a buffer, at the call's time
abbrev pub recorded : ℕ → List ℕ → ℕ → List Frame
recorded time records n = tabulate (frame_in records time) 0 n

-- ── a run of calls, each on the state that the last one left ──

unfoldable pub sent_from : {S : Type 0} → (S → Send → Gives S) → S → List Send → List Frame
sent_from sender m [] = []
sent_from sender m (s ∷ more) = (sender m s).frames ++ sent_from sender (sender m s).state more

-- the time of the last call that was answered 0, where t was that of the one before
abbrev pub last_time : ℕ → ℕ → Call → ℕ
last_time number t c = pick (eqb number 0) c.time t

-- of a call that is refused nothing is asked
abbrev pub Orderly : {S : Type 0} → (S → Send → Gives S) → Setup → ℕ → ℕ → S → List Send → Type 0
Orderly sender u own t m [] = Unit {0}
Orderly sender u own t m (s ∷ more) =
    ((sender m s).number ≡ 0 → Proper u own t s.call) × Orderly sender u own (last_time (sender m s).number t s.call) (sender m s).state more

pub record Run {S : Type 0} (sender : S → Send → Gives S) (u : Setup) (own : ℕ) (m : S) (l : List Send) : Type 0 where
  pub calls : Orderly sender u own 0 m l
  pub few : length (streams_in [] (sent_from sender m l)) ≤ streams_max
