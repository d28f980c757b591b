-- The verdict against the definition.
use Rattle.judge_rules.proofs.Theorem.{judge-laws}
use Rattle.judge_rules.proofs.judge_laws.Goals as goal

pub returns : goal.returns
returns c = judge-laws
