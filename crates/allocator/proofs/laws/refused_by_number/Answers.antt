-- A refusal of a message has the number that its description gives.
use Rattle.allocator.proofs.Numbers.{refused-by-number}
use Rattle.allocator.proofs.laws.refused_by_number.Goals as goal

pub returns : goal.returns
returns c = refused-by-number
