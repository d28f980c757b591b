-- `gathered::lowest` meets its contract.
use mathlib.Core.Path.{ap, ◌∙◌}
use lib.Count.{count_trailing_zeros}
use Rattle.sessions.proofs.gathered.lowest.Goals as goal

pub returns : goal.returns
returns c = c.lowest.ensures ∙ ap (count_trailing_zeros 64) c.free.ensures
