-- When there is a block (RULES 4.13).
use Rattle.rules.proofs.Bounds.{block-bounds}
use Rattle.rules.proofs.enough_blocks.Goals as goal

pub returns : goal.returns
returns c = block-bounds
