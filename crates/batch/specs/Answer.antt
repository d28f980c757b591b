-- RULES 13.1, 5.8: the answers of a call on several frames. The number of each case, and the records used up.
use Rattle.std.specs.Prelude.{ℕ, Result, Ok, Err}
use Rattle.batch.specs.declared.BatchError.{BatchError}
use Rattle.batch.specs.declared.BatchError.TheVariants.{Faulty}

abbrev pub Progress : Type 0
Progress = Result ℕ BatchError

abbrev pub number_of : Progress → ℕ
number_of (Ok n) = 0
number_of (Err Faulty) = 20

abbrev pub used_in : Progress → ℕ
used_in (Ok n) = n
used_in (Err Faulty) = 0
