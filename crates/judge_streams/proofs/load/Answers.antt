-- `load` meets its contract.
use mathlib.Core.Path.{refl}
use Rattle.judge_streams.specs.inside.Table.{kept_of}
use Rattle.judge_streams.proofs.load.Goals as goal

pub returns : goal.returns
unfolding kept_of
returns c = refl
