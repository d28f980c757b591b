-- RULES 13.1, 3.5 and 8.4: the answers of setting up a receiver or a transfer-ID map.
use Rattle.std.specs.Prelude.{ℕ, Result, Ok, Err}
use Rattle.answers.specs.declared.SetupError.{SetupError}
use Rattle.answers.specs.declared.SetupError.TheVariants.{Unacceptable, Short}

abbrev pub Outcome : Type 0
Outcome = Result (Unit {0}) SetupError

abbrev pub number_of : Outcome → ℕ
number_of (Ok u) = 0
number_of (Err Unacceptable) = 13
number_of (Err Short) = 20
