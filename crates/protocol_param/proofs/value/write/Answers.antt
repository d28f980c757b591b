-- `value::write` meets its contract: the tag, and the fields after it.
use native.Mathlib.Omega.{arith}
use lib.ListN.{length}
use Rattle.protocol_param.proofs.WriteFacts.{union-stored}
use Rattle.protocol_param.proofs.ValueFacts.{narrow, size-some}
use Rattle.protocol_param.proofs.value.write.Goals as goal

pub overflow_sub-w : goal.overflow_sub-w
overflow_sub-w c = omega (arith, c.width-w.ensures, narrow c.args.cases (omega arith))

pub write-requires : goal.write-requires
write-requires c =
    let a = c.args in
    let n = narrow a.cases (omega arith) in
    (omega (arith, c.width-w.ensures, n), (omega (arith, c.width-w.ensures, n), omega (arith, c.width-w.ensures, n, size-some a.v (length a.text.now))))

pub returns : goal.returns
returns c =
    let a = c.args in
    union-stored a.cases (omega arith) a.v a.text.now a.out.now c.write.new.s c.write_content.new.out a.at c.width-w.result c.tag_of.result
    c.width-w.ensures c.tag_of.ensures (omega (arith, size-some a.v (length a.text.now))) c.write.ensures c.write_content.ensures
