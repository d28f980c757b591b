-- The records of a send.
use Rattle.rules.proofs.Sends.{record-laws}
use Rattle.rules.proofs.records_of_send.Goals as goal

pub returns : goal.returns
returns c = record-laws
