-- The same node ID again.
use Rattle.allocator.proofs.Again.{same-id-again}
use Rattle.allocator.proofs.laws.same_id_again.Goals as goal

pub returns : goal.returns
returns c = same-id-again
