-- `execute_opcode_request::decode` meets its contract: 15, 16 or a request.
use native.Mathlib.Omega.{arith}
use lib.Dec.{lit≤}
use Rattle.shape.proofs.CastFacts.{number_read, signed-read}
use Rattle.protocol_param.proofs.ValueFacts.{refuses, gives}
use Rattle.protocol_param.proofs.OpcodeFacts.{cut-request, long-request, held-request, made-request}
use Rattle.protocol_param.specs.ExecuteOpcode.{request_of}
use Rattle.protocol_param.proofs.execute_opcode_request.decode.Goals as goal

pub returns-then-payload-lt7 : goal.returns-then-payload-lt7
returns-then-payload-lt7 c = let p = c.args.payload.now in refuses request_of (cut-request p (omega arith))

pub returns-then-payload-gt7 : goal.returns-then-payload-gt7
returns-then-payload-gt7 c = let p = c.args.payload.now in refuses request_of (long-request p (omega arith))

pub returns : goal.returns
returns c =
    let p = c.args.payload.now in
    gives request_of
    (made-request p _ _ (number_read p 0 8 (lit≤ tt) (omega arith) c.read.result c.read.ensures) (signed-read p 8 48 (lit≤ tt) (lit≤ tt) (omega arith) c.read_signed.result c.read_signed.ensures))
    (held-request p (omega arith))
