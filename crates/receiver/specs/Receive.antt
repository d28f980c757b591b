-- RULES 5.3, 5.6 and 4.9: a reception on a lent state. The answer, the state after and the output buffer are those of the rules' step on the view.
use Rattle.std.specs.Prelude.{Bool, true, false, List, ℕ, length}
use Rattle.rules.specs.Check.{Reception}
use Rattle.rules.specs.Frame.{Arrival}
use Rattle.rules.specs.Reception.{Step, step}
use Rattle.answers.specs.Reception.{told, out_after}
use Rattle.answers.specs.declared.Answer.{Answer}
use Rattle.answers.specs.declared.Answer.TheVariants.{Faulty}
use Rattle.state.specs.Layout.{setup_of, places_of}
use Rattle.state.specs.Place.{written}
use Rattle.state.specs.Sound.{sound_state}

pub record Result : Type 0 where
  pub answer : Answer
  pub state : List ℕ
  pub out : List ℕ

abbrev pub returned : Answer → List ℕ → List ℕ → Result
returned a m out = record { answer = a; state = m; out = out }

abbrev pub arrival_of : ℕ → List ℕ → ℕ → ℕ → Arrival
arrival_of id bytes interface time = record { frame = record { id = id; bytes = bytes; time = time }; interface = interface }

abbrev pub arriving : Arrival → List ℕ → Reception
arriving f out = record { arrival = f; room = length out }

-- a step of the rules on the lent bytes
abbrev pub lent : List ℕ → List ℕ → Step → Result
lent m out s = returned (told s.answer) (written m s.places) (out_after s.answer out)

-- RULES 5.3: a state at fault answers 20, first of all
unfoldable pub received_if : Bool → List ℕ → Arrival → List ℕ → Result
received_if false m f out = returned Faulty m out
received_if true m f out = lent m out (step (setup_of m) (places_of m) (arriving f out))

unfoldable pub received : List ℕ → Arrival → List ℕ → Result
received m f out = received_if (sound_state m) m f out
