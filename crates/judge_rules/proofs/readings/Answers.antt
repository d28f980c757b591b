-- The streams that are counted, and the checks.
use Rattle.judge_rules.proofs.Counting.{readings}
use Rattle.judge_rules.proofs.readings.Goals as goal

pub returns : goal.returns
returns c = readings
