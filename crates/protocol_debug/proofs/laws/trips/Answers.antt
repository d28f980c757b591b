-- The return trips.
use Rattle.protocol_debug.proofs.Trips.{laws}
use Rattle.protocol_debug.proofs.laws.trips.Goals as goal

pub returns : goal.returns
returns c = laws
