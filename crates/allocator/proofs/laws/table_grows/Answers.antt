-- The table only grows.
use Rattle.allocator.proofs.Lasts.{table-grows}
use Rattle.allocator.proofs.laws.table_grows.Goals as goal

pub returns : goal.returns
returns c = table-grows
