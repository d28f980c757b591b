-- `names::packed` meets its contract.
use Rattle.dsdl.proofs.NamePlaces.{unpacked}
use Rattle.dsdl.proofs.names.packed.Goals as goal

pub returns : goal.returns
returns c = unpacked c.args.w c.requires.1
