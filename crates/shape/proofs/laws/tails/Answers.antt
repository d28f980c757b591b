-- The law Tails.
use Rattle.shape.proofs.Tails.{tails}
use Rattle.shape.proofs.laws.tails.Goals as goal

pub returns : goal.returns
returns c = tails
