-- A case that meets the premises of condition 3 (RULES 14.15).
use Rattle.rules.proofs.Examples.{example}
use Rattle.rules.proofs.condition3_example.Goals as goal

pub returns : goal.returns
returns c = example
