-- The premises of condition 3 over lent states, met (RULES 14.15).
use Rattle.guarantees.proofs.Example.{lent-example}
use Rattle.guarantees.proofs.condition3_lent_example.Goals as goal

pub returns : goal.returns
returns c = lent-example
