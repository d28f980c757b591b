-- `get_node_info_response::read_numbers` meets its contract, field by field.
use Rattle.protocol.specs.GetNodeInfoResponse.{numbers_at}
use native.Mathlib.Omega.{arith}
use lib.Dec.{lit≤}
use Rattle.shape.proofs.CastFacts.{number_read}
use Rattle.protocol.proofs.get_node_info_response.read_numbers.Goals as goal

pub returns : goal.returns
unfolding numbers_at
returns c =
    let s = c.args.s.now in
    rw (
      c.read_front.ensures,
      number_read s 56 8 (lit≤ tt) (omega arith) c.read.result c.read.ensures,
      number_read s 64 8 (lit≤ tt) (omega arith) c.read-2.result c.read-2.ensures,
      number_read s 72 8 (lit≤ tt) (omega arith) c.read-3.result c.read-3.ensures,
      number_read s 80 32 (lit≤ tt) (omega arith) c.read-4.result c.read-4.ensures,
      c.read-5.ensures,
      number_read s 176 8 (lit≤ tt) (omega arith) c.read-6.result c.read-6.ensures,
      number_read s 184 8 (lit≤ tt) (omega arith) c.read-7.result c.read-7.ensures,
    )
