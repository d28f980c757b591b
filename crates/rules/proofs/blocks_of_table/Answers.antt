-- What follows from the rules of the blocks (RULES 4.12).
use Rattle.rules.proofs.Want.{block-laws}
use Rattle.rules.proofs.blocks_of_table.Goals as goal

pub returns : goal.returns
returns c = block-laws
