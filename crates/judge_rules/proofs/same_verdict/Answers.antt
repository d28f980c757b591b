-- The pass with little memory gives the same verdict.
use Rattle.judge_rules.proofs.Shorter.{same-verdict}
use Rattle.judge_rules.proofs.same_verdict.Goals as goal

pub returns : goal.returns
returns c = same-verdict
