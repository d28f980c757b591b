-- `laws::answers_in_range` meets its contract: the law.
use Rattle.dsdl_signature.proofs.Ranges.{answers-in-range}
use Rattle.dsdl_signature.proofs.laws.answers_in_range.Goals as goal

pub returns : goal.returns
returns c = answers-in-range
