-- `view::period` meets its contract.
use Rattle.allocatee.proofs.Views.{period-is}
use Rattle.allocatee.proofs.view.period.Goals as goal

pub returns : goal.returns
returns c = period-is c.args.bytes.now c.get_u32.result c.get_u32.ensures
