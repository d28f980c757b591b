-- A burst is caught over lent states (RULES 14.18).
use Rattle.guarantees.proofs.Condition3.{lent-burst}
use Rattle.guarantees.proofs.burst_is_caught_lent.Goals as goal

pub returns : goal.returns
returns c = lent-burst
