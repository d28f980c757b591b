-- What holds of a binary16 that comes in.
use Rattle.binary16.proofs.Whole.{widening-law}
use Rattle.binary16.proofs.laws.widening.Goals as goal

pub returns : goal.returns
returns c = widening-law
