-- `log_message::source` meets its contract.
use mathlib.Core.Path.{ap, ◌∙◌}
use Prim.Native.Nat.{ℕ}
use Rattle.bits.specs.Part.{span}
use Rattle.protocol_debug.proofs.log_message.source.Goals as goal

pub returns : goal.returns
returns c =
    c.within.ensures ∙ ap (λ (k : ℕ). span c.args.payload.now 1 k) c.source_length.ensures
