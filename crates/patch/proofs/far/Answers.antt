-- `far` has the rule of its powers at each entry: a test that antt computes, of each against the one before.
use mathlib.Core.Path.{refl}
use Rattle.checksum.specs.Crc.{shift}
use Rattle.patch.proofs.Powers.{is-powers}
use Rattle.patch.proofs.far.Goals as goal

pub returns : goal.returns
unfolding shift
returns c = is-powers 0 256 16 _ refl tt
