-- The records of an ID come out as they were put in.
use Rattle.queue.proofs.Turns.{in-turn}
use Rattle.queue.proofs.laws.in_turn.Goals as goal

pub returns : goal.returns
returns c = in-turn
