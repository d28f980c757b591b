-- `get_set_response::default_string_value` meets its contract.
use mathlib.Core.Path.{ap, ◌∙◌}
use mathlib.Core.List.{List}
use Prim.Native.Nat.{ℕ}
use lib.ListN.{drop}
use Rattle.protocol_param.specs.Value.{text_in}
use Rattle.protocol_param.proofs.get_set_response.default_string_value.Goals as goal

pub returns : goal.returns
returns c =
    c.text.ensures ∙ ap (λ (l : List ℕ). text_in l) (c.behind.ensures ∙ ap (λ (k : ℕ). drop k c.args.payload.now) c.default_at.ensures)
