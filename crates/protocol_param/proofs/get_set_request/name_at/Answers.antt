-- `get_set_request::name_at` meets its contract.
use mathlib.Core.Path.{ap, ◌∙◌}
use mathlib.Core.List.{List}
use Prim.Native.Nat.{ℕ, ◌+◌}
use native.Mathlib.Omega.{arith}
use Rattle.protocol_param.proofs.ValueFacts.{size-at-lt}
use Rattle.protocol_param.specs.Value.{size_at}
use Rattle.protocol_param.specs.GetSetRequest.{request_name_at}
use Rattle.protocol_param.proofs.get_set_request.name_at.Goals as goal

pub overflow_add-result : goal.overflow_add-result
overflow_add-result c = omega (arith, c.size.ensures, size-at-lt 5 c.behind.result.now)

pub returns : goal.returns
unfolding request_name_at
returns c = ap (λ (k : ℕ). 1 + k) (c.size.ensures ∙ ap (λ (l : List ℕ). size_at 5 l) c.behind.ensures)
