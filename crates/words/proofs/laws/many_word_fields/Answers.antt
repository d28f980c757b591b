-- The fields of the result word of several receptions, by cases.
use mathlib.Core.Path.{◌≡◌, refl}
use Prim.Native.Nat.{◌/◌, ◌^◌}
use native.Mathlib.Omega.{arith}
use Rattle.batch.specs.Answer.{Progress, number_of, used_in}
use Rattle.batch.specs.declared.BatchError.TheVariants.{Faulty}
use Rattle.std.specs.declared.result.Result.TheVariants.{Ok, Err}
use Rattle.words.specs.Word.{number_in, many_word}
use Rattle.words.proofs.laws.many_word_fields.Goals as goal

number : (a : Progress) → number_in (many_word a) ≡ number_of a
number (Ok n) = omega arith
number (Err Faulty) = refl

used : (a : Progress) → many_word a / 2 ^ 8 ≡ used_in a
used (Ok n) = omega arith
used (Err Faulty) = refl

pub returns : goal.returns
returns c = record { number = number; used = used }
