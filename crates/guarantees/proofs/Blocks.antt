-- No block of a lent state is lost or shared: after any list of calls the state has no fault, and its table none.
use Rattle.guarantees.specs.Blocks.{BlockLaw}
use Rattle.guarantees.specs.Run.{left}
use Rattle.guarantees.proofs.Run.{run-law}
use Rattle.rules.proofs.Want.{accounted}
use Rattle.state.proofs.Faultless.{table-sound, ready}
use Rattle.state.specs.Layout.{places_of}

pub block-law : BlockLaw
block-law m cs fine bytes typed =
    let s = (run-law m cs fine bytes typed).sound in
    record { accounted = accounted (places_of (left m cs)) (table-sound (left m cs) s); marked = (ready (left m cs) s).free }
