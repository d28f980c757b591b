-- `get_set_response::name_behind` meets its contract.
use native.Mathlib.Omega.{arith}
use Rattle.protocol_param.proofs.GetSetFacts.{next_place, min-lt}
use Rattle.protocol_param.proofs.ValueFacts.{size-at-lt}
use Rattle.protocol_param.specs.GetSetResponse.{name_at}
use Rattle.protocol_param.proofs.get_set_response.name_behind.Goals as goal

pub overflow_add-result : goal.overflow_add-result
overflow_add-result c =
    omega (arith, c.requires, min-lt c.args.payload.now, c.size.ensures, size-at-lt 3 c.behind.result.now)

pub returns : goal.returns
unfolding name_at
returns c =
    next_place c.args.payload.now 3 _ _ _ _ c.requires c.behind.ensures c.size.ensures
