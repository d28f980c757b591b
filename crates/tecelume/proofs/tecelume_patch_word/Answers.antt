-- `tecelume_patch_word` meets its contract: the proved call on the low bits, its answer as a word.
use mathlib.Core.Path.{ap, ◌∙◌}
use Rattle.words.specs.Word.{patch_word}
use Rattle.tecelume.proofs.tecelume_patch_word.Goals as goal

pub returns : goal.returns
returns c = c.of_patched.ensures ∙ ap patch_word c.patch.ensures
