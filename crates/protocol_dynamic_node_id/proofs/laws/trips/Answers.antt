-- The return trips.
use Rattle.protocol_dynamic_node_id.proofs.Trips.{laws}
use Rattle.protocol_dynamic_node_id.proofs.laws.trips.Goals as goal

pub returns : goal.returns
returns c = laws
