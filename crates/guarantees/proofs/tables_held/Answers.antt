-- The tables that a lent state can stand for.
use Rattle.guarantees.proofs.Received.{table-law}
use Rattle.guarantees.proofs.tables_held.Goals as goal

pub returns : goal.returns
returns c = table-law
