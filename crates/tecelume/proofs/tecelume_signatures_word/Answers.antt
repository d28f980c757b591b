-- `tecelume_signatures_word` meets its contract: the proved call, its answer as a word.
use mathlib.Core.Path.{ap, ◌∙◌}
use Prim.Native.Nat.{ℕ}
use Rattle.tecelume.specs.Entry.{signed, packed_signatures}
use Rattle.tecelume.proofs.tecelume_signatures_word.Goals as goal

pub returns : goal.returns
returns c =
    ap (λ (w : ℕ). signed w c.signatures.new.out c.signatures.new.records) c.of_signatures.ensures ∙ ap packed_signatures c.signatures.ensures
