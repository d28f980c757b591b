-- The return trips.
use Rattle.equipment_power.proofs.Trips.{laws}
use Rattle.equipment_power.proofs.laws.trips.Goals as goal

pub returns : goal.returns
returns c = laws
