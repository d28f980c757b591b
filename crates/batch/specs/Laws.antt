-- RULES 5.8: a batch is that many calls of `receive`, one after the other; `laws.rt` has a function whose contract it is.
use Rattle.std.specs.Prelude.{◌≡◌, List, [], ◌∷◌, ◌++◌, map, ℕ, ◌≤◌, length, take}
use Rattle.batch.specs.Answer.{used_in}
use Rattle.batch.specs.Layout.{records_max}
use Rattle.batch.specs.Many.{rest, full, batch, received_many}
use Rattle.guarantees.specs.Run.{Call, Reading, left, readings}
use Rattle.receiver.specs.Receive.{received}
use Rattle.rules.specs.Frame.{Arrival}
use Rattle.rules.specs.Tests.{pick}

-- the calls of the frames that are used up: each is lent what is left of the output buffer
unfoldable pub calls : List ℕ → List Arrival → List ℕ → List Call
calls m [] out = []
calls m (f ∷ fs) out = let r = received m f out in record { arrival = f; out = out } ∷ pick (full r) [] (calls r.state fs (rest r))

-- the payloads that calls hand out, one after the other
unfoldable pub payloads : List Reading → List ℕ
payloads [] = []
payloads (x ∷ xs) = x.payload ++ payloads xs

pub record BatchLaws : Type 0 where
  -- the answers are those of the calls, and so is the state after them
  pub answers : (m : List ℕ) (fs : List Arrival) (out : List ℕ) → (batch m fs out).answers ≡ map (λ x. x.answer) (readings m (calls m fs out))
  pub state : (m : List ℕ) (fs : List Arrival) (out : List ℕ) → (batch m fs out).state ≡ left m (calls m fs out)
  -- no payload is written over: all of them are at the front of the output buffer
  pub handed : (m : List ℕ) (fs : List Arrival) (out : List ℕ)
      → take (length (payloads (readings m (calls m fs out)))) (batch m fs out).out ≡ payloads (readings m (calls m fs out))
  -- no call uses up more than its limit
  pub used : (m records results out : List ℕ) → used_in (received_many m records results out).answer ≤ records_max
