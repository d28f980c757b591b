-- What a reception answers is in its range.
use Rattle.rules.proofs.Ranges.{ranges, number-law, one-law}
use Rattle.rules.proofs.answers_in_range.Goals as goal

pub returns : goal.returns
returns c = (ranges, (number-law, one-law))
