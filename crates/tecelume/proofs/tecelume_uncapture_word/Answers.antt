-- `tecelume_uncapture_word` meets its contract: the proved call, its answer as a word.
use mathlib.Core.Path.{ap, ◌∙◌}
use Prim.Native.Nat.{ℕ}
use Rattle.tecelume.specs.Entry.{packed_conversion}
use Rattle.tecelume.proofs.tecelume_uncapture_word.Goals as goal

pub of_converted-requires : goal.of_converted-requires
of_converted-requires c = c.uncapture.ensures.result_bound

pub returns : goal.returns
returns c =
    ap (λ (w : ℕ). record { word = w; out = c.uncapture.new.out }) c.of_converted.ensures ∙ ap packed_conversion c.uncapture.ensures.out_after
