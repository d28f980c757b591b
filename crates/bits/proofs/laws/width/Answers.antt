-- The law of a length field's width.
use Rattle.bits.proofs.Widths.{width-law}
use Rattle.bits.proofs.laws.width.Goals as goal

pub returns : goal.returns
returns c = width-law
