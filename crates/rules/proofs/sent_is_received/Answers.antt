-- Sending and then receiving.
use Rattle.rules.proofs.Delivered.{delivered}
use Rattle.rules.proofs.sent_is_received.Goals as goal

pub returns : goal.returns
returns c = delivered
