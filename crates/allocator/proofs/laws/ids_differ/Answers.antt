-- No node ID twice.
use Rattle.allocator.proofs.Again.{ids-differ}
use Rattle.allocator.proofs.laws.ids_differ.Goals as goal

pub returns : goal.returns
returns c = ids-differ
