-- An ID is taken from a message with the whole unique ID alone.
use Rattle.allocatee.proofs.Steps.{takes-its-own}
use Rattle.allocatee.proofs.laws.takes_its_own.Goals as goal

pub returns : goal.returns
returns c = takes-its-own
