-- What the transfer checksum catches.
use Rattle.checksum.proofs.Damage.{damage-laws}
use Rattle.checksum.proofs.laws.damage.Goals as goal

pub returns : goal.returns
returns c = damage-laws
