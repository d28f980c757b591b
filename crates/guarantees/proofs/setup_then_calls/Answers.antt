-- From setup to lists of calls.
use Rattle.guarantees.proofs.FromSetup.{from-setup}
use Rattle.guarantees.proofs.setup_then_calls.Goals as goal

pub returns : goal.returns
returns c = from-setup
