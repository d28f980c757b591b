-- The map after a send.
use Rattle.sender.proofs.After.{send-laws}
use Rattle.sender.proofs.laws.send.Goals as goal

pub returns : goal.returns
returns c = send-laws
