-- `execute_opcode_response::encode` meets its contract: 8 or a response, its last bits zero.
use mathlib.Core.Path.{refl}
use native.Mathlib.Omega.{arith}
use Rattle.bits.proofs.Octets.{octets-all}
use Rattle.shape.proofs.CastFacts.{number-given, signed-given}
use Rattle.shape.proofs.Writing.{refuse-8-padded, write-padded}
use Rattle.protocol_param.proofs.OpcodeFacts.{fit-response, bytes-response, stored-response}
use Rattle.protocol_param.specs.ExecuteOpcode.{opcode_response, response_values}
use Rattle.protocol_param.proofs.execute_opcode_response.encode.Goals as goal

pub returns-then-out-lt7 : goal.returns-then-out-lt7
returns-then-out-lt7 c =
    let a = c.args in
    refuse-8-padded opcode_response (response_values a.x) a.out.now refl (fit-response a.x) 7 (bytes-response a.x) (omega arith)

pub returns : goal.returns
returns c =
    let a = c.args in
    write-padded opcode_response (response_values a.x) a.out.now refl (fit-response a.x) 7 (bytes-response a.x)
    (octets-all a.out.now (λ i. omega (arith, c.slice_known-1.given i))) (omega (arith, c.if-out-lt7.false)) c.pad.new.s
    (stored-response a.x a.out.now c.write_signed.new.s c.write.new.s c.pad.new.s (omega (arith, c.if-out-lt7.false))
    (signed-given a.out.now c.write_signed.new.s 0 48 a.x.argument (record { sfits = c.struct_told-1.given.0.1 }) c.write_signed.ensures)
    (number-given c.write_signed.new.s c.write.new.s 48 1 a.x.ok (record { sfits = c.struct_told-2-1.given.1.0.1 }) c.write.ensures) c.pad.ensures)
