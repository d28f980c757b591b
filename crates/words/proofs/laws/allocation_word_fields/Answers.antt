-- Both fields of an allocator's word are read back.
use native.Mathlib.Omega.{arith}
use Rattle.allocator.proofs.Ranges.{answers-in-range}
use Rattle.words.proofs.laws.allocation_word_fields.Goals as goal

pub returns : goal.returns
returns c =
    record {
      number = λ m a. let r = answers-in-range m a in omega (arith, r.number, r.reply);
      len = λ m a. let r = answers-in-range m a in omega (arith, r.number, r.reply);
    }
