-- Both fields of a correction's word are read back.
use native.Mathlib.Omega.{arith}
use Rattle.patch.proofs.Ranges.{number-range, checksum-range}
use Rattle.words.proofs.laws.patch_word_fields.Goals as goal

pub returns : goal.returns
returns c =
    record {
      number = λ k old new n. omega (arith, number-range k old new n);
      checksum = λ k old new n h. omega (arith, number-range k old new n, checksum-range k old new n h);
    }
