-- RULES 20.6: what holds of a queue. `laws.rt` has a function for each, whose contract it is.
use Rattle.std.specs.Prelude.{◌≡◌, Bool, true, false, List, [], ◌∷◌, ◌++◌, ℕ, ◌%◌, ◌^◌, ◌≤◌, ◌<◌, eqb, length, Ok, Err}
use Rattle.rules.specs.Limits.{frame_record}
use Rattle.rules.specs.Tests.{pick}
use Rattle.queue.specs.Answer.{Answer, error_number, number_of, refusal}
use Rattle.queue.specs.Calls.{after_setup, after_put, after_take, looked}
use Rattle.queue.specs.Layout.{records_at, queue_of, sound_queue, records_of}
use Rattle.queue.specs.Queue.{Record, id_of, fault_of, first_fault}

-- a queue without a fault, of no more bytes than a slice can have
pub record Queue (m : List ℕ) : Type 0 where
  pub sound : sound_queue m ≡ true
  pub slice : length m < 2 ^ 64

-- ── lists of calls: what they put in and what they take out ──

pub data Call : Type 0 where
  puts : List ℕ → Call
  takes : Call

abbrev pub after_call : List ℕ → Call → List ℕ
after_call m (puts p) = (after_put m p).queue
after_call m takes = (after_take m).queue

-- each call gets the queue that the last one left
unfoldable pub after_calls : List ℕ → List Call → List ℕ
after_calls m [] = m
after_calls m (c ∷ cs) = after_calls (after_call m c) cs

abbrev pub is_done : Answer (Unit {0}) → Bool
is_done (Ok a) = true
is_done (Err e) = false

abbrev pub head : List Record → List Record
head [] = []
head (r ∷ q) = r ∷ []

-- the records of puts that were not refused
unfoldable pub entered : List ℕ → List Call → List Record
entered m [] = []
entered m (puts p ∷ cs) = pick (is_done (after_put m p).answer) (records_of p) [] ++ entered (after_put m p).queue cs
entered m (takes ∷ cs) = entered (after_take m).queue cs

unfoldable pub taken : List ℕ → List Call → List Record
taken m [] = []
taken m (puts p ∷ cs) = taken (after_put m p).queue cs
taken m (takes ∷ cs) = head (queue_of m) ++ taken (after_take m).queue cs

-- the records of an ID, in their order
unfoldable pub with_id : ℕ → List Record → List Record
with_id id [] = []
with_id id (r ∷ q) = pick (eqb (id_of r) id) (r ∷ with_id id q) (with_id id q)

-- ── the laws ──

-- after setup there is no record and no fault, whatever was in the bytes
pub record SetupLaws : Type 0 where
  pub empty : (m : List ℕ) → records_at ≤ length m → queue_of (after_setup m).queue ≡ []
  pub sound : (m : List ℕ) → records_at ≤ length m → sound_queue (after_setup m).queue ≡ true

abbrev pub QueueLasts : Type 0
QueueLasts = (m : List ℕ) (cs : List Call) → Queue m → Queue (after_calls m cs)

-- of every ID: what was in the queue, and then what was put in, is what was taken out, and then what is left; so nothing is lost, doubled, changed or passed
-- by a record of its own ID that was put later
abbrev pub InTurn : Type 0
InTurn =
    (m : List ℕ) (cs : List Call) → Queue m → (id : ℕ)
    → with_id id (queue_of m) ++ with_id id (entered m cs) ≡ with_id id (taken m cs) ++ with_id id (queue_of (after_calls m cs))

-- no record that waits has a lower ID than the one that goes next
abbrev pub LowestFirst : Type 0
LowestFirst =
    (m : List ℕ) → Queue m → (r x : Record) (q xs ys : List Record) → queue_of m ≡ r ∷ q → q ≡ xs ++ (x ∷ ys) → id_of r ≤ id_of x

-- RULES 20.3: the refusal of a record, and of a put, has the number of what refuses it
pub record RefusedByNumber : Type 0 where
  pub one : (r : Record) → (fault_of r ≡ 0 → ⊥) → error_number (refusal (fault_of r)) ≡ fault_of r
  pub list : (rs : List Record) → (first_fault rs ≡ 0 → ⊥) → error_number (refusal (first_fault rs)) ≡ first_fault rs
  pub put : (m p : List ℕ) → sound_queue m ≡ true → length p % frame_record ≡ 0 → (first_fault (records_of p) ≡ 0 → ⊥)
      → number_of (after_put m p).answer ≡ first_fault (records_of p)

-- RULES 13.3: every number fits the word of a C entry
pub record AnswersInRange : Type 0 where
  pub puts : (m p : List ℕ) → number_of (after_put m p).answer ≤ 20
  pub takes : (m : List ℕ) → number_of (after_take m).answer ≤ 20
  pub looks : (m out : List ℕ) → number_of (looked m out).answer ≤ 20
