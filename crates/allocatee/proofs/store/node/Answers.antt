-- `store::node` meets its contract.
use Rattle.allocatee.proofs.Views.{node-set}
use Rattle.allocatee.proofs.store.node.Goals as goal

pub returns : goal.returns
returns c = node-set c.args.bytes.now c.args.n
