-- `near` has the rule of its powers at each entry: a test that antt computes, of each against the one before.
use mathlib.Core.Path.{refl}
use Rattle.checksum.specs.Crc.{shift}
use Rattle.patch.proofs.Powers.{is-powers}
use Rattle.patch.proofs.near.Goals as goal

pub returns : goal.returns
unfolding shift
returns c = is-powers 16 8 32 _ refl tt
