-- `view::preferred` meets its contract.
use native.Mathlib.Omega.{arith}
use Rattle.allocatee.specs.Layout.{preferred_at}
use Rattle.allocatee.proofs.Views.{preferred-is}
use Rattle.allocatee.proofs.view.preferred.Goals as goal

pub overflow_cast-result : goal.overflow_cast-result
overflow_cast-result c = omega (arith, c.type_inv.bytes preferred_at)

pub returns : goal.returns
returns c = (preferred-is c.args.bytes.now, omega (arith, c.type_inv.bytes preferred_at))
