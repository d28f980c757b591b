-- `view::node` meets its contract.
use native.Mathlib.Omega.{arith}
use Rattle.allocatee.specs.Layout.{node_at}
use Rattle.allocatee.proofs.Views.{node-is}
use Rattle.allocatee.proofs.view.node.Goals as goal

pub overflow_cast-result : goal.overflow_cast-result
overflow_cast-result c = omega (arith, c.type_inv.bytes node_at)

pub returns : goal.returns
returns c = (node-is c.args.bytes.now, omega (arith, c.type_inv.bytes node_at))
