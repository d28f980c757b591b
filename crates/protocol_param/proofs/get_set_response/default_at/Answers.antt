-- `get_set_response::default_at` meets its contract.
use Rattle.protocol_param.specs.GetSetResponse.{default_at}
use Rattle.protocol_param.proofs.get_set_response.default_at.Goals as goal

pub returns : goal.returns
unfolding default_at
returns c = c.size.ensures
