-- What holds of an f32 that goes out.
use Rattle.binary16.proofs.Whole.{narrowing-law}
use Rattle.binary16.proofs.laws.narrowing.Goals as goal

pub returns : goal.returns
returns c = narrowing-law
