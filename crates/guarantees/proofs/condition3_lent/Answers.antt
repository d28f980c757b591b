-- Condition 3 over lent states (RULES 14.14).
use Rattle.guarantees.proofs.Condition3.{lent-theorem}
use Rattle.guarantees.proofs.condition3_lent.Goals as goal

pub returns : goal.returns
returns c = lent-theorem
