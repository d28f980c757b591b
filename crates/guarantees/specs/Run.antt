-- RULES 4.11, 5.7: receptions one after the other on a lent state, and what the caller reads of each.
use Rattle.std.specs.Prelude.{◌≡◌, true, List, [], ◌∷◌, map, ℕ, take}
use Rattle.bits.specs.Order.{Octets}
use Rattle.guarantees.specs.Received.{Typed}
use Rattle.rules.specs.Answer as rules
use Rattle.rules.specs.Check.{Reception}
use Rattle.rules.specs.Condition3.{All}
use Rattle.rules.specs.Frame.{Arrival}
use Rattle.rules.specs.Reception.{run, after}
use Rattle.receiver.specs.Receive.{Result, arriving, received}
use Rattle.answers.specs.Reception.{transfer_in, told}
use Rattle.answers.specs.declared.Answer.{Answer}
use Rattle.state.specs.Layout.{setup_of, places_of}
use Rattle.state.specs.Sound.{sound_state}

-- ── calls ──

-- one call of `receive`: a frame as it comes, and the output buffer lent to it
pub record Call : Type 0 where
  pub arrival : Arrival
  pub out : List ℕ

abbrev pub result_of : List ℕ → Call → Result
result_of m c = received m c.arrival c.out

-- the state that calls leave, each on the one that the last left
unfoldable pub left : List ℕ → List Call → List ℕ
left m [] = m
left m (c ∷ cs) = left (result_of m c).state cs

-- the same calls to the rules
abbrev pub reception_of : Call → Reception
reception_of c = arriving c.arrival c.out

abbrev pub receptions : List Call → List Reception
receptions = map reception_of

abbrev pub AllTyped : List Call → Type 0
AllTyped = All (λ c. Typed c.arrival.frame)

-- ── what the caller reads ──

-- the answer and, with 1, the payload at the front of the output buffer
pub record Reading : Type 0 where
  pub answer : Answer
  pub payload : List ℕ

abbrev pub reading : Result → Reading
reading r = record { answer = r.answer; payload = take (transfer_in r.answer).len r.out }

unfoldable pub readings : List ℕ → List Call → List Reading
readings m [] = []
readings m (c ∷ cs) = reading (result_of m c) ∷ readings (result_of m c).state cs

-- what is to be read of an answer of the rules
abbrev pub reading_of : rules.Answer → Reading
reading_of a = record { answer = told a; payload = rules.handed_payload a }

-- ── the law ──

-- the calls read as the rules answer, and leave what stands for the rules' table after them, under the same setup and without a fault
pub record Runs (m : List ℕ) (cs : List Call) : Type 0 where
  pub read : readings m cs ≡ map reading_of (run (setup_of m) (places_of m) (receptions cs))
  pub places : places_of (left m cs) ≡ after (setup_of m) (places_of m) (receptions cs)
  pub setup : setup_of (left m cs) ≡ setup_of m
  pub sound : sound_state (left m cs) ≡ true
  pub bytes : Octets (left m cs)

abbrev pub RunLaw : Type 0
RunLaw = (m : List ℕ) (cs : List Call) → sound_state m ≡ true → Octets m → AllTyped cs → Runs m cs
