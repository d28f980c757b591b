-- `get_node_info_response::name` meets its contract.
use mathlib.Core.Path.{ap, ◌∙◌}
use Prim.Native.Nat.{ℕ, ◌+◌}
use native.Mathlib.Omega.{arith}
use lib.ListN.{drop}
use Rattle.protocol.proofs.ResponseReadFacts.{below}
use Rattle.protocol.proofs.get_node_info_response.name.Goals as goal

pub overflow_add-certificate_length : goal.overflow_add-certificate_length
overflow_add-certificate_length c = omega (arith, c.certificate_length.ensures, below c.args.payload.now)

pub returns : goal.returns
returns c =
    c.behind.ensures ∙ ap (λ (k : ℕ). drop (41 + k) c.args.payload.now) c.certificate_length.ensures
