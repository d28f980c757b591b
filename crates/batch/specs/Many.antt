-- RULES 5.8: several frames in one call. Each is received as by a call of its own, on the state that the one before it left, and is lent what is left of
-- the output buffer.
use Rattle.std.specs.Prelude.{Bool, true, false, ◌&&◌, List, [], ◌∷◌, ◌++◌, ℕ, min, ◌/◌, ltb, length, take, drop, Ok, Err}
use Rattle.answers.specs.Reception.{transfer_in}
use Rattle.answers.specs.Word.{word_of}
use Rattle.answers.specs.declared.Answer.{Answer}
use Rattle.batch.specs.Answer.{Progress}
use Rattle.batch.specs.Layout.{arrival_size, result_size, records_max, arrival_at}
use Rattle.batch.specs.declared.BatchError.TheVariants.{Faulty}
use Rattle.bits.specs.Little.{le_bytes}
use Rattle.bits.specs.Part.{splice}
use Rattle.bits.specs.Tabulate.{tabulate}
use Rattle.receiver.specs.Receive.{Result, received}
use Rattle.rules.specs.Frame.{Arrival}
use Rattle.rules.specs.Limits.{payload_max}
use Rattle.rules.specs.Tests.{pick}
use Rattle.state.specs.Sound.{sound_state}

-- ── receptions one after the other ──

-- what each frame is answered, and the state and the output buffer after all
pub record Batch : Type 0 where
  pub answers : List Answer
  pub state : List ℕ
  pub out : List ℕ

-- the bytes of the payload that a reception hands out; 0 where it hands out none
abbrev pub handed : Result → ℕ
handed r = (transfer_in r.answer).len

-- the output buffer past that payload
abbrev pub rest : Result → List ℕ
rest r = drop (handed r) r.out

-- a payload was handed out, and what is left of the buffer is too short for any other
abbrev pub full : Result → Bool
full r = ltb 0 (handed r) && ltb (length (rest r)) payload_max

-- no more frames
abbrev pub ended : List ℕ → List ℕ → Batch
ended m out = record { answers = []; state = m; out = out }

-- a reception and those after it
abbrev pub followed : Result → Batch → Batch
followed r b = record { answers = r.answer ∷ b.answers; state = b.state; out = take (handed r) r.out ++ b.out }

-- the frames up to the first that leaves the buffer full
unfoldable pub batch : List ℕ → List Arrival → List ℕ → Batch
batch m [] out = ended m out
batch m (f ∷ fs) out =
    let r = received m f out in
    followed r (pick (full r) (ended r.state (rest r)) (batch r.state fs (rest r)))

-- ── the call ──

pub record Called : Type 0 where
  pub answer : Progress
  pub state : List ℕ
  pub results : List ℕ
  pub out : List ℕ

abbrev pub returned : Progress → List ℕ → List ℕ → List ℕ → Called
returned a m results out = record { answer = a; state = m; results = results; out = out }

-- as many records as there are, as there is room for results, and as one call uses up
abbrev pub at_most : ℕ → ℕ → ℕ
at_most records results = min (min (records / arrival_size) (results / result_size)) records_max

-- the result word of each frame, as a call of its own gives it
unfoldable pub words : List Answer → List ℕ
words [] = []
words (a ∷ more) = le_bytes result_size (word_of a) ++ words more

-- the words are at the front of their buffer
abbrev pub told : Batch → List ℕ → Called
told b results = returned (Ok (length b.answers)) b.state (splice results 0 (words b.answers)) b.out

-- a state at fault answers 20, first of all
unfoldable pub received_many_if : Bool → List ℕ → List ℕ → List ℕ → List ℕ → Called
received_many_if false m records results out = returned (Err Faulty) m results out
received_many_if true m records results out =
    told (batch m (tabulate (arrival_at records) 0 (at_most (length records) (length results))) out) results

unfoldable pub received_many : List ℕ → List ℕ → List ℕ → List ℕ → Called
received_many m records results out = received_many_if (sound_state m) m records results out
