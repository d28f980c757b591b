-- Every number fits.
use Rattle.queue.proofs.Turns.{in-range}
use Rattle.queue.proofs.laws.answers_in_range.Goals as goal

pub returns : goal.returns
returns c = in-range
