-- A run of our sender on lent bytes.
use Rattle.judge_sender.proofs.Lent.{sender-laws}
use Rattle.judge_sender.proofs.passes.Goals as goal

pub returns : goal.returns
returns c = sender-laws
