-- A list of receptions, by the view.
use Rattle.guarantees.proofs.Run.{run-law}
use Rattle.guarantees.proofs.run_by_view.Goals as goal

pub returns : goal.returns
returns c = run-law
