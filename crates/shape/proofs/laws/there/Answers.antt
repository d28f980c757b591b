-- The law There.
use Rattle.shape.proofs.RoundTrip.{round-there}
use Rattle.shape.proofs.laws.there.Goals as goal

pub returns : goal.returns
returns c = round-there
