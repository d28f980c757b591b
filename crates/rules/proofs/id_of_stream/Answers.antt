-- The laws of the ID of a stream and a priority.
use Rattle.rules.proofs.Ids.{id-laws}
use Rattle.rules.proofs.id_of_stream.Goals as goal

pub returns : goal.returns
returns c = id-laws
