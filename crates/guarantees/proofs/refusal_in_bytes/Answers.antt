-- 2 to 9 and 20 leave the lent bytes.
use Rattle.guarantees.proofs.Refusal.{refusal-laws}
use Rattle.guarantees.proofs.refusal_in_bytes.Goals as goal

pub returns : goal.returns
returns c = refusal-laws
