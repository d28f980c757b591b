-- A request goes out again within the period.
use Rattle.allocatee.proofs.Steps.{asks-again}
use Rattle.allocatee.proofs.laws.asks_again.Goals as goal

pub returns : goal.returns
returns c = asks-again
