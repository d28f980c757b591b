-- `get_set_response::name` meets its contract.
use mathlib.Core.Path.{ap, ◌∙◌}
use Prim.Native.Nat.{ℕ}
use lib.ListN.{drop}
use Rattle.protocol_param.proofs.get_set_response.name.Goals as goal

pub returns : goal.returns
returns c =
    c.behind.ensures ∙ ap (λ (k : ℕ). drop k c.args.payload.now) c.name_at.ensures
