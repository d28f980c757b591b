-- A run of our sender passes.
use Rattle.judge_rules.proofs.Sender.{sender-passes}
use Rattle.judge_rules.proofs.sender_passes.Goals as goal

pub returns : goal.returns
returns c = sender-passes
