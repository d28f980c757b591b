-- The fields of the word of signatures are read back.
use native.Mathlib.Omega.{arith}
use Rattle.dsdl_signature.proofs.Ranges.{answers-in-range}
use Rattle.words.proofs.laws.signatures_word_fields.Goals as goal

pub returns : goal.returns
returns c =
    record {
      number = λ s l o m. let r = answers-in-range s l o m in omega (arith, r.number, r.definition, r.line);
      definition = λ s l o m. let r = answers-in-range s l o m in omega (arith, r.number, r.definition, r.line);
      line = λ s l o m. let r = answers-in-range s l o m in omega (arith, r.number, r.definition, r.line);
    }
