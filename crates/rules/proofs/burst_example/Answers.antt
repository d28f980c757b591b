-- A case that meets the premises of the theorem on bursts (RULES 14.19).
use Rattle.rules.proofs.Examples.{damage-example}
use Rattle.rules.proofs.burst_example.Goals as goal

pub returns : goal.returns
returns c = damage-example
