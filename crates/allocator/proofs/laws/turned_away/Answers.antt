-- 21 exactly if no ID is free.
use Rattle.allocator.proofs.Again.{turned-away}
use Rattle.allocator.proofs.laws.turned_away.Goals as goal

pub returns : goal.returns
returns c = turned-away
