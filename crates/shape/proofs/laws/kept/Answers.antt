-- The law Kept.
use Rattle.shape.proofs.There.{kept}
use Rattle.shape.proofs.laws.kept.Goals as goal

pub returns : goal.returns
returns c = kept
