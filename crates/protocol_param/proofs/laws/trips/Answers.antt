-- The return trips.
use Rattle.protocol_param.proofs.Trips.{laws}
use Rattle.protocol_param.proofs.laws.trips.Goals as goal

pub returns : goal.returns
returns c = laws
