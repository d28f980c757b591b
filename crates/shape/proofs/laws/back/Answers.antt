-- The law Back.
use Rattle.shape.proofs.RoundTrip.{round-back}
use Rattle.shape.proofs.laws.back.Goals as goal

pub returns : goal.returns
returns c = round-back
