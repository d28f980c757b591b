-- The law Unions.
use Rattle.shape.proofs.RoundTrip.{unions}
use Rattle.shape.proofs.laws.unions.Goals as goal

pub returns : goal.returns
returns c = unions
