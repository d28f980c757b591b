-- The fields of the result word.
use Rattle.words.proofs.Words.{word_laws}
use Rattle.words.proofs.laws.word_fields.Goals as goal

pub returns : goal.returns
returns c = word_laws
