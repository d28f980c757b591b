-- The fields of the result word of a conversion, by cases.
use mathlib.Core.Path.{◌≡◌, refl}
use Prim.Native.Nat.{◌/◌, ◌^◌}
use native.Mathlib.Omega.{arith}
use Rattle.capture_convert.specs.Answer.{Converted, number_of, length_in}
use Rattle.capture_convert.specs.declared.answer.ConvertError.TheVariants.{IllFormed, TooMany, NoCapture, NotCarried, OutputSmall}
use Rattle.std.specs.declared.result.Result.TheVariants.{Ok, Err}
use Rattle.words.specs.Word.{number_in, conversion_word}
use Rattle.words.proofs.laws.conversion_word_fields.Goals as goal

number : (a : Converted) → number_in (conversion_word a) ≡ number_of a
number (Ok n) = omega arith
number (Err IllFormed) = refl
number (Err TooMany) = refl
number (Err NoCapture) = refl
number (Err NotCarried) = refl
number (Err OutputSmall) = refl

len : (a : Converted) → conversion_word a / 2 ^ 8 ≡ length_in a
len (Ok n) = omega arith
len (Err IllFormed) = refl
len (Err TooMany) = refl
len (Err NoCapture) = refl
len (Err NotCarried) = refl
len (Err OutputSmall) = refl

pub returns : goal.returns
returns c = record { number = number; len = len }
