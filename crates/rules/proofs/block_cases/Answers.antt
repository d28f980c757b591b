-- Cases of the blocks (RULES 15.7).
use Rattle.rules.proofs.Examples.{block-cases}
use Rattle.rules.proofs.block_cases.Goals as goal

pub returns : goal.returns
returns c = block-cases
