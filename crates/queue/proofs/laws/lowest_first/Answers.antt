-- The record that goes next has the lowest ID.
use Rattle.queue.proofs.Turns.{lowest-first}
use Rattle.queue.proofs.laws.lowest_first.Goals as goal

pub returns : goal.returns
returns c = lowest-first
