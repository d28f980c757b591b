-- The laws of a setup.
use Rattle.setup.proofs.Fresh.{state-long, fresh}
use Rattle.setup.proofs.laws.setup.Goals as goal

pub returns : goal.returns
returns c = record { as_long = state-long; fresh = fresh }
