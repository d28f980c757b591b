-- `get_node_info_response::certificate_of_authenticity` meets its contract.
use mathlib.Core.Path.{ap, ◌∙◌}
use Prim.Native.Nat.{ℕ}
use Rattle.bits.specs.Part.{span}
use Rattle.protocol.proofs.get_node_info_response.certificate_of_authenticity.Goals as goal

pub returns : goal.returns
returns c =
    c.within.ensures ∙ ap (λ (k : ℕ). span c.args.payload.now 41 k) c.certificate_length.ensures
