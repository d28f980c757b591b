-- A state without a fault stays one.
use Rattle.allocator.proofs.Lasts.{state-lasts}
use Rattle.allocator.proofs.laws.state_lasts.Goals as goal

pub returns : goal.returns
returns c = state-lasts
