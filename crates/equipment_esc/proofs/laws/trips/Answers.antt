-- The return trips.
use Rattle.equipment_esc.proofs.Trips.{laws}
use Rattle.equipment_esc.proofs.laws.trips.Goals as goal

pub returns : goal.returns
returns c = laws
