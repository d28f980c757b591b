-- Whether a record is refused, as the code tells it.
use Rattle.std.specs.Prelude.{ℕ, eqb, Ok, Err}
use Rattle.rules.specs.Tests.{pick}
use Rattle.queue.specs.Answer.{Answer, refusal}

-- by the number of what refuses it, or 0
abbrev pub checked : ℕ → Answer (Unit {0})
checked n = pick (eqb n 0) (Ok tt) (Err (refusal n))
