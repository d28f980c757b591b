-- The laws of the frames of a payload.
use Rattle.rules.proofs.Frames.{sent-laws}
use Rattle.rules.proofs.frames_of_payload.Goals as goal

pub returns : goal.returns
returns c = sent-laws
