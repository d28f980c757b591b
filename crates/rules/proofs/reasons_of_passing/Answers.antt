-- Why a frame is passed over (RULES 4.6).
use Rattle.rules.proofs.Reasons.{reasons}
use Rattle.rules.proofs.reasons_of_passing.Goals as goal

pub returns : goal.returns
returns c = reasons
