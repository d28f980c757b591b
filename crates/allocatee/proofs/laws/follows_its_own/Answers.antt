-- A follow-up is pending for a beginning of the unique ID alone.
use Rattle.allocatee.proofs.Steps.{follows-its-own}
use Rattle.allocatee.proofs.laws.follows_its_own.Goals as goal

pub returns : goal.returns
returns c = follows-its-own
