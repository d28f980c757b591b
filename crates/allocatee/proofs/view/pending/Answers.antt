-- `view::pending` meets its contract.
use native.Mathlib.Omega.{arith}
use Rattle.allocatee.specs.Layout.{pending_at}
use Rattle.allocatee.proofs.Views.{pending-is}
use Rattle.allocatee.proofs.view.pending.Goals as goal

pub overflow_cast-result : goal.overflow_cast-result
overflow_cast-result c = omega (arith, c.type_inv.bytes pending_at)

pub returns : goal.returns
returns c = (pending-is c.args.bytes.now, omega (arith, c.type_inv.bytes pending_at))
