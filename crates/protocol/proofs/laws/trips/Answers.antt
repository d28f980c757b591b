-- The return trips.
use Rattle.protocol.proofs.Trips.{laws}
use Rattle.protocol.proofs.laws.trips.Goals as goal

pub returns : goal.returns
returns c = laws
