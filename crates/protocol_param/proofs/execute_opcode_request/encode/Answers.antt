-- `execute_opcode_request::encode` meets its contract: 8 or a request.
use mathlib.Core.Path.{refl}
use native.Mathlib.Omega.{arith}
use Rattle.bits.proofs.Octets.{octets-all}
use Rattle.shape.proofs.CastFacts.{number-given, signed-given}
use Rattle.shape.proofs.Writing.{refuse-8, write-all}
use Rattle.protocol_param.proofs.OpcodeFacts.{fit-request, size-request, stored-request}
use Rattle.protocol_param.specs.ExecuteOpcode.{opcode_request, request_values}
use Rattle.protocol_param.proofs.execute_opcode_request.encode.Goals as goal

pub returns-then-out-lt7 : goal.returns-then-out-lt7
returns-then-out-lt7 c =
    let a = c.args in
    refuse-8 opcode_request (request_values a.x) a.out.now refl (fit-request a.x) 7 (size-request a.x) (omega arith)

pub returns : goal.returns
returns c =
    let a = c.args in
    write-all opcode_request (request_values a.x) a.out.now refl (fit-request a.x) 7 (size-request a.x)
    (octets-all a.out.now (λ i. omega (arith, c.slice_known-1.given i))) (omega (arith, c.if-out-lt7.false)) c.write_signed.new.s
    (stored-request a.x a.out.now c.write.new.s c.write_signed.new.s (omega (arith, c.if-out-lt7.false))
    (number-given a.out.now c.write.new.s 0 8 a.x.opcode (record { sfits = c.struct_told-1.given.0.1 }) c.write.ensures)
    (signed-given c.write.new.s c.write_signed.new.s 8 48 a.x.argument (record { sfits = c.struct_told-2-1.given.1.0.1 }) c.write_signed.ensures))
