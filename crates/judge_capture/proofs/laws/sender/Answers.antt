-- The laws of the call.
use Rattle.judge_capture.proofs.Theorems.{sender-laws}
use Rattle.judge_capture.proofs.laws.sender.Goals as goal

pub returns : goal.returns
returns c = sender-laws
