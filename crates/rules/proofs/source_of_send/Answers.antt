-- Sources and IDs of a send.
use Rattle.rules.proofs.Sends.{source-laws}
use Rattle.rules.proofs.source_of_send.Goals as goal

pub returns : goal.returns
returns c = source-laws
