-- `node_status::read_front` meets its contract, field by field.
use Rattle.protocol.specs.NodeStatus.{status_at}
use Rattle.protocol.proofs.NodeStatusFacts.{made}
use native.Mathlib.Omega.{arith}
use lib.Dec.{lit≤}
use Rattle.shape.proofs.CastFacts.{number_read}
use Rattle.protocol.proofs.node_status.read_front.Goals as goal

pub returns : goal.returns
unfolding status_at
returns c =
    let s = c.args.s.now in
    made (number_read s 0 32 (lit≤ tt) (omega arith) c.read.result c.read.ensures)
    (number_read s 32 2 (lit≤ tt) (omega arith) c.read-2.result c.read-2.ensures)
    (number_read s 34 3 (lit≤ tt) (omega arith) c.read-3.result c.read-3.ensures)
    (number_read s 40 16 (lit≤ tt) (omega arith) c.read-4.result c.read-4.ensures)
