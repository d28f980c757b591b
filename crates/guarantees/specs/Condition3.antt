-- RULES 14.14: the receivers that `receive` makes of lent bytes, for condition 3 (rules, Condition3.antt).
use Rattle.std.specs.Prelude.{◌≡◌, true, List, ℕ}
use Rattle.bits.specs.Order.{Octets}
use Rattle.guarantees.specs.Received.{Typed}
use Rattle.guarantees.specs.Run.{Call, reception_of, result_of, Reading, reading, reading_of}
use Rattle.rules.specs.Condition3.{Machine}
use Rattle.rules.specs.Setup.{Setup}
use Rattle.answers.specs.Reception.{number_of}
use Rattle.state.specs.Layout.{setup_of}
use Rattle.state.specs.Sound.{sound_state}

-- RULES 14.2: a lent state of a setup with any past. Setup leaves one without a fault, every reception keeps it one, and any other is answered 20.
pub record Lent (u : Setup) (m : List ℕ) : Type 0 where
  pub setup : setup_of m ≡ u
  pub sound : sound_state m ≡ true
  -- it is a slice of u8
  pub bytes : Octets m

-- calls of `receive` on lent states that have some past
abbrev pub receiving : (List ℕ → Type 0) → Machine
receiving past =
    record {
      State = List ℕ;
      Call = Call;
      Answer = Reading;
      reception = reception_of;
      answer = λ m c. reading (result_of m c);
      after = λ m c. (result_of m c).state;
      number = λ r. number_of r.answer;
      shows = reading_of;
      Past = past;
      Typed = λ c. Typed c.arrival.frame;
    }

abbrev pub lent_bytes : Setup → Machine
lent_bytes u = receiving (Lent u)
