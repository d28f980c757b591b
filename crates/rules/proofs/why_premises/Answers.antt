-- Cases that break a premise of condition 3 (RULES 14.13).
use Rattle.rules.proofs.Examples.{why-premises}
use Rattle.rules.proofs.why_premises.Goals as goal

pub returns : goal.returns
returns c = why-premises
