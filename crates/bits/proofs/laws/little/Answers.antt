-- The law of little-endian numbers.
use Rattle.bits.proofs.Little.{le-le_bytes}
use Rattle.bits.proofs.laws.little.Goals as goal

pub returns : goal.returns
returns c = le-le_bytes
