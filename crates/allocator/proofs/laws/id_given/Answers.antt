-- Which ID a new unique ID gets.
use Rattle.allocator.proofs.Lasts.{id-given}
use Rattle.allocator.proofs.laws.id_given.Goals as goal

pub returns : goal.returns
returns c = id-given
