-- A refusal has the number of what refuses.
use Rattle.queue.proofs.Numbers.{refused-by-number}
use Rattle.queue.proofs.laws.refused_by_number.Goals as goal

pub returns : goal.returns
returns c = refused-by-number
