-- A queue without a fault stays one.
use Rattle.queue.proofs.Turns.{queue-lasts}
use Rattle.queue.proofs.laws.queue_lasts.Goals as goal

pub returns : goal.returns
returns c = queue-lasts
