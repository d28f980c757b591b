-- RULES 4.6: why a frame is passed over. The reasons are complete, and of those that hold the first is answered.
use Rattle.std.specs.Prelude.{◌≡◌, true, false, not, List, [], ◌∷◌, ℕ, eqb}
use Rattle.std.proofs.Math.Option.{Option, none, some}
use Rattle.rules.specs.Answer.{Reason, no_transfer, other_interface, reason_number, passed, number_of}
use Rattle.rules.specs.Check.{Reception, Parsed, Test, first, check}
use Rattle.rules.specs.Frame.{is_anonymous, stream_of, tail_of, is_start}
use Rattle.rules.specs.Reception.{step}
use Rattle.rules.specs.Session.{Session, old, over, react}
use Rattle.rules.specs.Setup.{Setup}
use Rattle.rules.specs.Sound.{session_fits, sound}
use Rattle.rules.specs.Table.{Places, seek, holds}
use Rattle.rules.specs.Tests.{same_bool, is_empty}

-- of a start: another interface is followed, it is of another transfer, it repeats the start of the one in hand
abbrev pub start_tests : Session → Parsed → List Test
start_tests s v =
    record { holds = not (eqb v.interface s.follows); number = 34 } ∷
    record { holds = not (eqb v.transfer s.expected); number = 32 } ∷
    record { holds = not (is_empty s.gathered); number = 33 } ∷ []

-- of any other frame: another interface is followed, no transfer is in hand, it is of another one, it has the wrong toggle
abbrev pub other_tests : Session → Parsed → List Test
other_tests s v =
    record { holds = not (eqb v.interface s.follows); number = 34 } ∷
    record { holds = is_empty s.gathered; number = 30 } ∷
    record { holds = not (eqb v.transfer s.expected); number = 32 } ∷
    record { holds = not (same_bool v.toggle s.toggle); number = 31 } ∷ []

abbrev pub numbered : Option Reason → Option ℕ
numbered none = none
numbered (some r) = some (reason_number r)

pub record Reasons : Type 0 where
  -- a start that passed check 5, at a session without a fault: if no test holds it is taken
  pub start : (s : Session) (v : Parsed) → session_fits s ≡ true → v.start ≡ true → v.toggle ≡ false → numbered (over s v) ≡ first (start_tests s v)
  pub other : (s : Session) (v : Parsed) → v.start ≡ false → numbered (over s v) ≡ first (other_tests s v)
  -- no start, and an old session or none: 30, whatever the interface
  pub aged : (s : Session) (v : Parsed) → old v.time s ≡ true → v.start ≡ false → (react s v).answer ≡ passed no_transfer
  pub missing : (u : Setup) (ps : Places) (r : Reception) → check u r ≡ none → is_anonymous r.arrival.frame.id ≡ false
      → seek (holds (stream_of r.arrival.frame.id)) ps ≡ none → is_start (tail_of r.arrival.frame.bytes) ≡ false
      → step u ps r ≡ record { answer = passed no_transfer; places = ps }
  -- 34 is for a session that is not old
  pub followed : (s : Session) (v : Parsed) → (react s v).answer ≡ passed other_interface
      → (old v.time s ≡ false) × (eqb v.interface s.follows ≡ false)
  -- in a table without a fault no start is answered 30 or 31
  pub begun : (u : Setup) (ps : Places) (r : Reception) → sound ps ≡ true → is_start (tail_of r.arrival.frame.bytes) ≡ true
      → (eqb (number_of (step u ps r).answer) 30 ≡ false) × (eqb (number_of (step u ps r).answer) 31 ≡ false)
