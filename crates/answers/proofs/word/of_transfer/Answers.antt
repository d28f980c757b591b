-- `word::of_transfer` meets its contract: the type ID is its highest four bits and its lowest twelve.
use native.Mathlib.Omega.{arith}
use Rattle.answers.specs.Word.{transfer_word}
use Rattle.answers.proofs.word.of_transfer.Goals as goal

pub returns : goal.returns
unfolding transfer_word
returns c = omega arith
