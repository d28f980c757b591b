-- RULES 20.3 to 20.5: the calls on a queue in lent bytes.
use Rattle.std.specs.Prelude.{true, false, not, Bool, List, [], ◌∷◌, ◌++◌, ℕ, ◌+◌, ◌%◌, eqb, ltb, length, drop, Ok, Err}
use Rattle.answers.specs.Setup.{Outcome}
use Rattle.answers.specs.declared.SetupError.TheVariants.{Short}
use Rattle.rules.specs.Limits.{frame_record}
use Rattle.rules.specs.Tests.{pick}
use Rattle.queue.specs.Answer.{Answer, refusal}
use Rattle.queue.specs.Layout.{records_at, capacity, queue_of, sound_queue, records_of, holding}
use Rattle.queue.specs.Queue.{Record, first_fault, put_all}
use Rattle.queue.specs.declared.answer.QueueError.TheVariants.{OutputSmall, Full, PartRecord, Faulty}

-- ── setup ──

pub record SetUp : Type 0 where
  pub answer : Outcome
  pub queue : List ℕ

abbrev pub set_up : Outcome → List ℕ → SetUp
set_up a m = record { answer = a; queue = m }

-- bytes that are too few stay as they were
unfoldable pub after_setup : List ℕ → SetUp
after_setup m = pick (ltb (length m) records_at) (set_up (Err Short) m) (set_up (Ok tt) (holding m []))

-- ── put and take: the answer, and the queue after it ──

pub record Result (A : Type 0) : Type 0 where
  pub answer : Answer A
  pub queue : List ℕ

abbrev pub returned : {A : Type 0} → Answer A → List ℕ → Result A
returned a m = record { answer = a; queue = m }

-- RULES 20.3: a list of records, all or none
abbrev pub admitted : List ℕ → List Record → Result (Unit {0})
admitted m rs =
    pick (eqb (first_fault rs) 0)
    (pick (ltb (capacity (length m)) (length (queue_of m) + length rs)) (returned (Err Full) m) (returned (Ok tt) (holding m (put_all (queue_of m) rs))))
    (returned (Err (refusal (first_fault rs))) m)

unfoldable pub after_put : List ℕ → List ℕ → Result (Unit {0})
after_put m p =
    pick (not (sound_queue m)) (returned (Err Faulty) m)
    (pick (eqb (length p % frame_record) 0) (admitted m (records_of p)) (returned (Err PartRecord) m))

abbrev pub without_first : List ℕ → List Record → Result Bool
without_first m [] = returned (Ok false) m
without_first m (r ∷ q) = returned (Ok true) (holding m q)

unfoldable pub after_take : List ℕ → Result Bool
after_take m = pick (not (sound_queue m)) (returned (Err Faulty) m) (without_first m (queue_of m))

-- ── look: the answer, and the output buffer after it ──

pub record Shown : Type 0 where
  pub answer : Answer Bool
  pub out : List ℕ

abbrev pub shown : Answer Bool → List ℕ → Shown
shown a out = record { answer = a; out = out }

abbrev pub first : List Record → List ℕ → Shown
first [] out = shown (Ok false) out
first (r ∷ q) out = pick (ltb (length out) frame_record) (shown (Err OutputSmall) out) (shown (Ok true) (r ++ drop frame_record out))

unfoldable pub looked : List ℕ → List ℕ → Shown
looked m out = pick (not (sound_queue m)) (shown (Err Faulty) out) (first (queue_of m) out)
