-- RULES 13.1, 7.1: the answers of a send. The number of each case, what a success made, and the rules' answer as the code tells it.
use Rattle.std.specs.Prelude.{ℕ, Result, Ok, Err}
use Rattle.answers.specs.declared.Dispatch.{Dispatch}
use Rattle.answers.specs.declared.SendError.{SendError}
use Rattle.answers.specs.declared.SendError.TheVariants.{OutputSmall, MapFull, TooLong, NotSendable, Faulty}
use Rattle.rules.specs.Sending as rules

abbrev pub Sent : Type 0
Sent = Result Dispatch SendError

abbrev pub number_of : Sent → ℕ
number_of (Ok d) = 0
number_of (Err OutputSmall) = 8
number_of (Err MapFull) = 9
number_of (Err TooLong) = 11
number_of (Err NotSendable) = 14
number_of (Err Faulty) = 20

-- nothing made
abbrev pub no_dispatch : Dispatch
no_dispatch = record { frames = 0; transfer = 0 }

abbrev pub dispatch_in : Sent → Dispatch
dispatch_in (Ok d) = d
dispatch_in (Err e) = no_dispatch

abbrev pub told : rules.Outcome → Sent
told (rules.done n t) = Ok (record { frames = n; transfer = t })
told rules.unsendable = Err NotSendable
told rules.long = Err TooLong
told rules.small = Err OutputSmall
told rules.full = Err MapFull
