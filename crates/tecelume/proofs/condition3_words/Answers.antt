-- Condition 3 over result words.
use Rattle.tecelume.proofs.Condition3.{word-theorem}
use Rattle.tecelume.proofs.condition3_words.Goals as goal

pub returns : goal.returns
returns c = word-theorem
