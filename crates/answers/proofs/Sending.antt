-- The rules' answer of a send and the code's: the same number, as many frames, under the same transfer ID.
use mathlib.Core.Path.{◌≡◌, refl}
use Rattle.answers.specs.Sending.{number_of, dispatch_in, told}
use Rattle.rules.specs.Sending as rules

pub told-number : (o : rules.Outcome) → number_of (told o) ≡ rules.number_of o
told-number (rules.done n t) = refl
told-number rules.unsendable = refl
told-number rules.long = refl
told-number rules.small = refl
told-number rules.full = refl

pub told-dispatch : (o : rules.Outcome) → dispatch_in (told o) ≡ record { frames = rules.frames_of o; transfer = rules.transfer_of o }
told-dispatch (rules.done n t) = refl
told-dispatch rules.unsendable = refl
told-dispatch rules.long = refl
told-dispatch rules.small = refl
told-dispatch rules.full = refl
