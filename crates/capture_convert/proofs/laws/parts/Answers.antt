-- Part by part.
use Rattle.capture_convert.proofs.Theorems.{part-laws}
use Rattle.capture_convert.proofs.laws.parts.Goals as goal

pub returns : goal.returns
returns c = part-laws
