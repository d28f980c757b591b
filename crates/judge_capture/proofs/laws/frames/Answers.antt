-- The laws of the call.
use Rattle.judge_capture.proofs.Theorems.{frame-laws}
use Rattle.judge_capture.proofs.laws.frames.Goals as goal

pub returns : goal.returns
returns c = frame-laws
