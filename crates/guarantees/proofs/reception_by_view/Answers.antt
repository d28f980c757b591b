-- The state after a reception, by its view.
use Rattle.guarantees.proofs.Received.{view-law}
use Rattle.guarantees.proofs.reception_by_view.Goals as goal

pub returns : goal.returns
returns c = view-law
