-- The laws of a correction.
use Rattle.patch.proofs.Corrections.{patch-laws}
use Rattle.patch.proofs.laws.patching.Goals as goal

pub returns : goal.returns
returns c = patch-laws
