-- RULES 13.1, 16.3: the answers of an allocator. The number of each, and the length of the reply.
use Rattle.std.specs.Prelude.{ℕ, eqb, Option, Some, None, Result, Ok, Err}
use Rattle.rules.specs.Tests.{pick}
use Rattle.shape.specs.Answer as message
use Rattle.shape.specs.declared.answer.Refusal.{Refusal}
use Rattle.shape.specs.declared.answer.Refusal.TheVariants.{NoRoom, TooShort, TooLong, NotAllowed, Padding, NoCase}
use Rattle.allocator.specs.declared.answer.AllocateError.{AllocateError}
use Rattle.allocator.specs.declared.answer.AllocateError.TheVariants.{OwnId, Message, Exhausted, Faulty}

-- of what is done the length of the reply, or None for no reply
abbrev pub Answer : Type 0
Answer = Result (Option ℕ) AllocateError

abbrev pub number_of : Answer → ℕ
number_of (Ok n) = 0
number_of (Err OwnId) = 13
number_of (Err (Message r)) = message.number_of r
number_of (Err Exhausted) = 21
number_of (Err Faulty) = 20

-- no reply has length 0
abbrev pub length_in : Answer → ℕ
length_in (Ok None) = 0
length_in (Ok (Some n)) = n
length_in (Err e) = 0

-- what a description refuses with, by its number
abbrev pub refusal_of : ℕ → Refusal
refusal_of n =
    pick (eqb n 8) NoRoom (pick (eqb n 15) TooShort (pick (eqb n 16) TooLong (pick (eqb n 17) NotAllowed (pick (eqb n 27) NoCase Padding))))
