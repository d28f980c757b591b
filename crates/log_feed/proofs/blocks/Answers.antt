-- The law of the blocks.
use Rattle.log_feed.proofs.BlockLaw.{law}
use Rattle.log_feed.proofs.blocks.Goals as goal

pub returns : goal.returns
returns c = law
