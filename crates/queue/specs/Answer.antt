-- RULES 13.1, 20.3: the answers of a queue, and the number of each.
use Rattle.std.specs.Prelude.{ℕ, eqb, Result, Ok, Err}
use Rattle.rules.specs.Tests.{pick}
use Rattle.queue.specs.declared.answer.QueueError.{QueueError}
use Rattle.queue.specs.declared.answer.QueueError.TheVariants.{LargeId, BadLength, OutputSmall, Full, PartRecord, Faulty}

-- a put is done or refused; of looking and taking, whether there was a record
abbrev pub Answer : Type 0 → Type 0
Answer A = Result A QueueError

abbrev pub error_number : QueueError → ℕ
error_number LargeId = 2
error_number BadLength = 3
error_number OutputSmall = 8
error_number Full = 9
error_number PartRecord = 15
error_number Faulty = 20

abbrev pub number_of : {A : Type 0} → Answer A → ℕ
number_of (Ok a) = 0
number_of (Err e) = error_number e

-- what refuses a record, by its number in specs/Queue.antt: 2 or 3
abbrev pub refusal : ℕ → QueueError
refusal n = pick (eqb n 2) LargeId BadLength
