-- The rules' answer and the code's: the same number, and the length of what is handed out.
use mathlib.Core.Path.{◌≡◌, refl}
use lib.ListN.{length}
use Rattle.answers.specs.Reception.{reason_number, number_of, transfer_in, told_reason, told}
use Rattle.rules.specs.Answer as rules

reason-number : (r : rules.Reason) → reason_number (told_reason r) ≡ rules.reason_number r
reason-number rules.no_transfer = refl
reason-number rules.wrong_toggle = refl
reason-number rules.wrong_transfer = refl
reason-number rules.repeated_start = refl
reason-number rules.other_interface = refl

pub told-number : (a : rules.Answer) → number_of (told a) ≡ rules.number_of a
told-number rules.taken = refl
told-number (rules.handed p d priority t) = refl
told-number (rules.refused n) = refl
told-number rules.full = refl
told-number (rules.passed r) = reason-number r
told-number rules.long = refl
told-number rules.no_block = refl
told-number rules.differs = refl

pub told-length : (a : rules.Answer) → (transfer_in (told a)).len ≡ length (rules.handed_payload a)
told-length rules.taken = refl
told-length (rules.handed p d priority t) = refl
told-length (rules.refused n) = refl
told-length rules.full = refl
told-length (rules.passed r) = refl
told-length rules.long = refl
told-length rules.no_block = refl
told-length rules.differs = refl
