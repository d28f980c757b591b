-- The law CastLaws.
use Rattle.shape.proofs.CastFacts.{cast-laws}
use Rattle.shape.proofs.laws.casts.Goals as goal

pub returns : goal.returns
returns c = cast-laws
