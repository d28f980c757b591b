-- A frame that is refused changes no place.
use Rattle.rules.proofs.Refusals.{refusals}
use Rattle.rules.proofs.refusal.Goals as goal

pub returns : goal.returns
returns c = refusals
