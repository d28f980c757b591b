-- `view::delay` meets its contract.
use Rattle.allocatee.proofs.Views.{delay-is}
use Rattle.allocatee.proofs.view.delay.Goals as goal

pub returns : goal.returns
returns c = delay-is c.args.bytes.now c.get_u32.result c.get_u32.ensures
