-- `value::text` meets its contract.
use mathlib.Core.Path.{ap, ◌∙◌}
use Prim.Native.Nat.{ℕ}
use Rattle.bits.specs.Part.{span}
use Rattle.protocol_param.proofs.value.text.Goals as goal

pub returns : goal.returns
returns c =
    c.within.ensures ∙ ap (λ (k : ℕ). span c.args.s.now 2 k) c.text_length.ensures
