-- A written reply, as the call's answer.
use Rattle.std.specs.Prelude.{ℕ, Some, Result, Ok, Err}
use Rattle.shape.specs.declared.answer.Refusal.{Refusal}
use Rattle.allocator.specs.Answer.{Answer}
use Rattle.allocator.specs.declared.answer.AllocateError.TheVariants.{Message}

abbrev pub replied : Result ℕ Refusal → Answer
replied (Ok n) = Ok (Some n)
replied (Err r) = Err (Message r)
