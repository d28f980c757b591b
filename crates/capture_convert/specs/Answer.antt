-- RULES 13.1, 18.3, 18.4: the answers of the two calls. The number of each case, and the length of what was written.
use Rattle.std.specs.Prelude.{ℕ, Result, Ok, Err}
use Rattle.capture_convert.specs.declared.answer.ConvertError.{ConvertError}
use Rattle.capture_convert.specs.declared.answer.ConvertError.TheVariants.{IllFormed, TooMany, NoCapture, NotCarried, OutputSmall}

-- what is written has this length
abbrev pub Converted : Type 0
Converted = Result ℕ ConvertError

abbrev pub number_of : Converted → ℕ
number_of (Ok n) = 0
number_of (Err IllFormed) = 18
number_of (Err TooMany) = 9
number_of (Err NoCapture) = 22
number_of (Err NotCarried) = 23
number_of (Err OutputSmall) = 8

abbrev pub length_in : Converted → ℕ
length_in (Ok n) = n
length_in (Err e) = 0
