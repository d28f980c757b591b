-- There and back.
use Rattle.capture_convert.proofs.Theorems.{trips}
use Rattle.capture_convert.proofs.laws.trips.Goals as goal

pub returns : goal.returns
returns c = trips
