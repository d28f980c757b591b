-- `key::key` meets its contract.
use mathlib.Core.Path.{refl}
use Rattle.frame.specs.Key.{key_of}
use Rattle.frame.proofs.key.key.Goals as goal

pub returns : goal.returns
unfolding key_of
returns c = refl
