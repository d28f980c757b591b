-- The number of a failure.
use Rattle.judge_rules.proofs.Reasons.{number-laws}
use Rattle.judge_rules.proofs.number_laws.Goals as goal

pub returns : goal.returns
returns c = number-laws
