-- A queue that was set up has no record and no fault.
use Rattle.queue.proofs.Turns.{setup-laws}
use Rattle.queue.proofs.laws.setup.Goals as goal

pub returns : goal.returns
returns c = setup-laws
