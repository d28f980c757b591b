-- The laws of a batch, as a contract.
use Rattle.batch.proofs.Calls.{batch-laws}
use Rattle.batch.proofs.laws.calls.Goals as goal

pub returns : goal.returns
returns c = batch-laws
