-- The same of the logic's f32.
use Rattle.binary16.proofs.Real.{floats-law}
use Rattle.binary16.proofs.laws.floats.Goals as goal

pub returns : goal.returns
returns c = floats-law
