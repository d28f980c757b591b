-- Lengths.
use Rattle.capture_convert.proofs.Theorems.{lengths}
use Rattle.capture_convert.proofs.laws.lengths.Goals as goal

pub returns : goal.returns
returns c = lengths
