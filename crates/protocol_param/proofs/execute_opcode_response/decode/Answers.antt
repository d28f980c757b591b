-- `execute_opcode_response::decode` meets its contract: 15, 16, 25 or a response.
use mathlib.Core.Path.{◌∙◌}
use native.Mathlib.Omega.{arith}
use lib.Dec.{lit≤}
use lib.ListN.{drop}
use Rattle.bits.specs.Order.{unpack}
use Rattle.shape.specs.Shape.{end, decode}
use Rattle.shape.proofs.Reading.{unrefused, unread, handed-on}
use Rattle.shape.proofs.CastFacts.{number_read, signed-read}
use Rattle.protocol_param.proofs.ValueFacts.{refuses, gives}
use Rattle.protocol_param.proofs.OpcodeFacts.{cut-response, stop-response, held-response, made-response}
use Rattle.protocol_param.specs.ExecuteOpcode.{response_of}
use Rattle.protocol_param.proofs.execute_opcode_response.decode.Goals as goal

pub returns-then-payload-lt7 : goal.returns-then-payload-lt7
returns-then-payload-lt7 c = let p = c.args.payload.now in refuses response_of (cut-response p (omega arith))

pub returns-in_err-refusal : goal.returns-in_err-refusal
returns-in_err-refusal c =
    let p = c.args.payload.now in
    handed-on c.from_residual.result c.in_err-refusal.field-0.0 c.from_residual.ensures.1
    ∙ refuses response_of (stop-response p (omega arith) _ (unrefused (decode end (drop 49 (unpack p))) _ c.in_err-refusal.ensures))

pub returns : goal.returns
returns c =
    let p = c.args.payload.now in
    gives response_of
    (made-response p _ _ (signed-read p 0 48 (lit≤ tt) (lit≤ tt) (omega arith) c.read_signed.result c.read_signed.ensures) (number_read p 48 1 (lit≤ tt) (omega arith) c.read.result c.read.ensures))
    (held-response p (omega arith) (unread (decode end (drop 49 (unpack p))) tt c.in_ok-refusal.ensures))
