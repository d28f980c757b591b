-- The laws of the call.
use Rattle.judge_capture.proofs.Theorems.{verdict-laws}
use Rattle.judge_capture.proofs.laws.verdict.Goals as goal

pub returns : goal.returns
returns c = verdict-laws
