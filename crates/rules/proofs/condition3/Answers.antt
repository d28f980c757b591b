-- Condition 3 (RULES 14.1).
use Rattle.rules.proofs.Theorem.{theorem}
use Rattle.rules.proofs.condition3.Goals as goal

pub returns : goal.returns
returns c = theorem
