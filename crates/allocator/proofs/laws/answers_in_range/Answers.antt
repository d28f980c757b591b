-- Every answer fits the result word.
use Rattle.allocator.proofs.Ranges.{answers-in-range}
use Rattle.allocator.proofs.laws.answers_in_range.Goals as goal

pub returns : goal.returns
returns c = answers-in-range
