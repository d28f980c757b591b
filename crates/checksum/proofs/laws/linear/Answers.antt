-- The laws of the checks under exclusive or.
use Rattle.checksum.proofs.Linear.{linear-laws}
use Rattle.checksum.proofs.laws.linear.Goals as goal

pub returns : goal.returns
returns c = linear-laws
