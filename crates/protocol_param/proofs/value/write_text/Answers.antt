-- `value::write_text` meets its contract: its length, and its bytes.
use native.Mathlib.Omega.{arith}
use Rattle.protocol_param.proofs.WriteFacts.{text-stored}
use Rattle.protocol_param.proofs.ValueFacts.{eight}
use Rattle.protocol_param.proofs.value.write_text.Goals as goal

pub write-requires : goal.write-requires
write-requires c = (omega (arith, eight, c.width.ensures), (omega arith, omega (arith, eight, c.width.ensures)))

pub returns : goal.returns
returns c =
    let a = c.args in
    text-stored a.text.now a.out.now c.write.new.s c.write_bytes.new.s a.at c.width.result c.width.ensures (omega arith) c.write.ensures c.write_bytes.ensures
