-- No block is lost or shared over lists of receptions (RULES 4.12).
use Rattle.guarantees.proofs.Blocks.{block-law}
use Rattle.guarantees.proofs.blocks_kept.Goals as goal

pub returns : goal.returns
returns c = block-law
