-- `store::pending` meets its contract.
use Rattle.allocatee.proofs.Views.{pending-set}
use Rattle.allocatee.proofs.store.pending.Goals as goal

pub returns : goal.returns
returns c = pending-set c.args.bytes.now c.args.n
