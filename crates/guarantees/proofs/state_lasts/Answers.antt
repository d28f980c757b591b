-- A lent state without a fault stays one.
use Rattle.guarantees.proofs.Received.{sound-law}
use Rattle.guarantees.proofs.state_lasts.Goals as goal

pub returns : goal.returns
returns c = sound-law
