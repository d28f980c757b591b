-- `tecelume_judge_word` meets its contract: the proved call, its answer as a word.
use mathlib.Core.Path.{ap, ◌∙◌}
use Rattle.words.specs.Word.{verdict_word}
use Rattle.tecelume.proofs.tecelume_judge_word.Goals as goal

pub returns : goal.returns
returns c = c.of_verdict.ensures ∙ ap verdict_word c.judge.ensures.value
