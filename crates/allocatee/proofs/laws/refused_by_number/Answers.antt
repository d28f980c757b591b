-- A refusal of a message has the number that its description gives.
use Rattle.allocatee.proofs.Numbers.{refused-by-number}
use Rattle.allocatee.proofs.laws.refused_by_number.Goals as goal

pub returns : goal.returns
returns c = refused-by-number
