-- A burst is caught (RULES 14.18).
use Rattle.rules.proofs.Caught.{burst-caught}
use Rattle.rules.proofs.burst_is_caught.Goals as goal

pub returns : goal.returns
returns c = burst-caught
