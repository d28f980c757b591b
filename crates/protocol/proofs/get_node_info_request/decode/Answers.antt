-- `get_node_info_request::decode` meets its contract.
use mathlib.Core.Path.{sym, ap}
use native.Mathlib.Omega.{arith}
use Rattle.bits.specs.Order.{unpack}
use Rattle.bits.proofs.Bytes.{length-unpack}
use Rattle.shape.specs.Answer.{numbered}
use Rattle.shape.proofs.Reading.{end_none, end-left}
use Rattle.protocol.proofs.get_node_info_request.decode.Goals as goal

pub returns-then-payload-gt0 : goal.returns-then-payload-gt0
returns-then-payload-gt0 c =
    let s = c.args.payload.now in
    ap numbered (sym (end-left (unpack s) (omega (arith, length-unpack s))))

pub returns : goal.returns
returns c =
    let s = c.args.payload.now in
    ap numbered (sym (end_none (unpack s) (omega (arith, length-unpack s))))
