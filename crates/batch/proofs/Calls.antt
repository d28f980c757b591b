-- A batch is that many calls, one after the other.
use mathlib.Core.Path.{◌≡◌, refl, ap, ◌∙◌}
use mathlib.Core.Bool.{Bool, true, false}
use mathlib.Core.List.{List, [], ◌∷◌, ◌++◌, map}
use Prim.Native.Nat.{ℕ, zero, suc, min, ◌/◌, ◌≤◌}
use native.Mathlib.Nat.{min-le_right}
use native.Mathlib.Omega.{arith}
use lib.ListN.{length, take, length-append}
use lib.Seq.{take-append-add}
use Rattle.answers.specs.declared.Answer.{Answer}
use Rattle.batch.specs.Answer.{used_in}
use Rattle.batch.specs.Layout.{arrival_size, result_size, records_max, arrival_at}
use Rattle.batch.specs.Laws.{calls, payloads, BatchLaws}
use Rattle.batch.specs.Many.{handed, rest, full, ended, at_most, batch, received_many_if, received_many}
use Rattle.bits.specs.Tabulate.{tabulate}
use Rattle.guarantees.specs.Run.{left, readings}
use Rattle.receiver.specs.Receive.{Result, received}
use Rattle.rules.specs.Frame.{Arrival}
use Rattle.rules.specs.Tests.{pick}
use Rattle.state.specs.Sound.{sound_state}

-- ── the batch and its calls, frame by frame ──

answers-step : (r : Result) (fs : List Arrival) (b : Bool) → (batch r.state fs (rest r)).answers ≡ map (λ x. x.answer) (readings r.state (calls r.state fs (rest r)))
    → r.answer ∷ (pick b (ended r.state (rest r)) (batch r.state fs (rest r))).answers
    ≡ r.answer ∷ map (λ x. x.answer) (readings r.state (pick b [] (calls r.state fs (rest r))))
unfolding readings
answers-step r fs true ih = refl
answers-step r fs false ih = ap (λ (l : List Answer). r.answer ∷ l) ih

answers-law : (m : List ℕ) (fs : List Arrival) (out : List ℕ) → (batch m fs out).answers ≡ map (λ x. x.answer) (readings m (calls m fs out))
unfolding batch calls readings
answers-law m [] out = refl
answers-law m (f ∷ fs) out =
    let r = received m f out in
    answers-step r fs (full r) (answers-law r.state fs (rest r))

state-step : (r : Result) (fs : List Arrival) (b : Bool) → (batch r.state fs (rest r)).state ≡ left r.state (calls r.state fs (rest r))
    → (pick b (ended r.state (rest r)) (batch r.state fs (rest r))).state ≡ left r.state (pick b [] (calls r.state fs (rest r)))
unfolding left
state-step r fs true ih = refl
state-step r fs false ih = ih

state-law : (m : List ℕ) (fs : List Arrival) (out : List ℕ) → (batch m fs out).state ≡ left m (calls m fs out)
unfolding batch calls left
state-law m [] out = refl
state-law m (f ∷ fs) out =
    let r = received m f out in
    state-step r fs (full r) (state-law r.state fs (rest r))

-- a payload in front of others that are in front
in-front : (p ps rest : List ℕ) → take (length ps) rest ≡ ps → take (length (p ++ ps)) (p ++ rest) ≡ p ++ ps
in-front p ps rest e =
    ap (λ (k : ℕ). take k (p ++ rest)) (length-append p ps) ∙ take-append-add p rest (length ps) ∙ ap (λ (l : List ℕ). p ++ l) e

handed-step : (r : Result) (fs : List Arrival) (b : Bool)
    → take (length (payloads (readings r.state (calls r.state fs (rest r))))) (batch r.state fs (rest r)).out
    ≡ payloads (readings r.state (calls r.state fs (rest r)))
    → take (length (take (handed r) r.out ++ payloads (readings r.state (pick b [] (calls r.state fs (rest r))))))
    (take (handed r) r.out ++ (pick b (ended r.state (rest r)) (batch r.state fs (rest r))).out)
    ≡ take (handed r) r.out ++ payloads (readings r.state (pick b [] (calls r.state fs (rest r))))
unfolding readings payloads
handed-step r fs true ih = in-front (take (handed r) r.out) [] (rest r) refl
handed-step r fs false ih = in-front (take (handed r) r.out) (payloads (readings r.state (calls r.state fs (rest r)))) (batch r.state fs (rest r)).out ih

handed-law : (m : List ℕ) (fs : List Arrival) (out : List ℕ)
    → take (length (payloads (readings m (calls m fs out)))) (batch m fs out).out ≡ payloads (readings m (calls m fs out))
unfolding batch calls readings payloads
handed-law m [] out = refl
handed-law m (f ∷ fs) out =
    let r = received m f out in
    handed-step r fs (full r) (handed-law r.state fs (rest r))

-- ── how many ──

no-more-step : (r : Result) (fs : List Arrival) (b : Bool) → length (batch r.state fs (rest r)).answers ≤ length fs
    → suc (length (pick b (ended r.state (rest r)) (batch r.state fs (rest r))).answers) ≤ suc (length fs)
no-more-step r fs true ih = omega arith
no-more-step r fs false ih = omega arith

no_more : (m : List ℕ) (fs : List Arrival) (out : List ℕ) → length (batch m fs out).answers ≤ length fs
unfolding batch
no_more m [] out = omega arith
no_more m (f ∷ fs) out =
    let r = received m f out in
    no-more-step r fs (full r) (no_more r.state fs (rest r))

length-tabulate : {A : Type 0} (f : ℕ → A) (i n : ℕ) → length (tabulate f i n) ≡ n
unfolding tabulate
length-tabulate f i zero = refl
length-tabulate f i (suc n) = ap suc (length-tabulate f (suc i) n)

pub used-few : (m records results out : List ℕ) → used_in (received_many m records results out).answer ≤ records_max
unfolding received_many received_many_if
used-few m records results out = go (sound_state m)
  where
    go : (b : Bool) → used_in (received_many_if b m records results out).answer ≤ records_max
    go false = omega arith
    go true =
        let n = at_most (length records) (length results) in
        let fs = tabulate (arrival_at records) 0 n in
        omega (
          arith,
          no_more m fs out,
          length-tabulate (arrival_at records) 0 n,
          min-le_right (min (length records / arrival_size) (length results / result_size)) records_max,
        )

pub batch-laws : BatchLaws
batch-laws = record { answers = answers-law; state = state-law; handed = handed-law; used = used-few }
