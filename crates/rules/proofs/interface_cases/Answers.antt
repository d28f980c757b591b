-- Cases of the rule for redundant interfaces (RULES 15.6).
use Rattle.rules.proofs.Examples.{interfaces}
use Rattle.rules.proofs.interface_cases.Goals as goal

pub returns : goal.returns
returns c = interfaces
