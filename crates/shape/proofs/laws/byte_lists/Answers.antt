-- The law ByteLists.
use Rattle.shape.proofs.Tails.{byte-lists}
use Rattle.shape.proofs.laws.byte_lists.Goals as goal

pub returns : goal.returns
returns c = byte-lists
