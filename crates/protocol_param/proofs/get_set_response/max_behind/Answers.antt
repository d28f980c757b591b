-- `get_set_response::max_behind` meets its contract.
use native.Mathlib.Omega.{arith}
use Rattle.protocol_param.proofs.GetSetFacts.{next_place, default_lt}
use Rattle.protocol_param.proofs.ValueFacts.{size-at-lt}
use Rattle.protocol_param.specs.GetSetResponse.{max_at}
use Rattle.protocol_param.proofs.get_set_response.max_behind.Goals as goal

pub overflow_add-result : goal.overflow_add-result
overflow_add-result c =
    omega (arith, c.requires, default_lt c.args.payload.now, c.size.ensures, size-at-lt 5 c.behind.result.now)

pub returns : goal.returns
unfolding max_at
returns c =
    next_place c.args.payload.now 5 _ _ _ _ c.requires c.behind.ensures c.size.ensures
