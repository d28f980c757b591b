-- The law Same.
use Rattle.shape.proofs.RoundTrip.{whole_same}
use Rattle.shape.proofs.laws.same.Goals as goal

pub returns : goal.returns
returns c = whole_same
