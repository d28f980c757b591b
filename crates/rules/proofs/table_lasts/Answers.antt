-- A table without a fault stays one.
use Rattle.rules.proofs.Lasting.{lasting}
use Rattle.rules.proofs.table_lasts.Goals as goal

pub returns : goal.returns
returns c = lasting
