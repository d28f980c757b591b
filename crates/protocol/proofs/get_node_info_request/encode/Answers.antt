-- `get_node_info_request::encode` meets its contract: no bits make no bytes.
use native.Mathlib.Omega.{arith}
use borrow.Author.Tests.{le-ltb}
use lib.ListN.{length}
use Rattle.bits.specs.Order.{bytes}
use Rattle.shape.specs.Answer.{refuse_if}
use Rattle.shape.specs.Shape.{encode, fits, encoded}
use Rattle.protocol.proofs.get_node_info_request.encode.Goals as goal

pub returns : goal.returns
unfolding encoded refuse_if fits encode bytes
returns c = rw (le-ltb (length c.args.out.now) 0 (omega arith))
