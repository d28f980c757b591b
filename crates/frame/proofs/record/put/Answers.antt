-- `record::put` meets its contract: three stores, one after the other.
use native.Mathlib.Omega.{arith}
use Rattle.frame.proofs.Records.{stored}
use Rattle.frame.proofs.record.put.Goals as goal

pub returns : goal.returns
returns c =
    let a = c.args in
    stored a.out.now c.put_u32.new.s c.put_at.new.s c.put_u64.new.s a.at a.id a.n a.word
    (omega arith) (omega arith) c.put_u32.ensures c.put_at.ensures c.put_u64.ensures
