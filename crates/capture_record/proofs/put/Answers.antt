-- `put` meets its contract: two stores.
use Rattle.capture_record.proofs.Stores.{stored}
use Rattle.capture_record.proofs.put.Goals as goal

pub returns : goal.returns
returns c =
    let a = c.args in
    stored a.out.now c.put_at.new.s c.put.new.out a.l.bytes a.at a.l.time a.l.id a.l.len c.get_at.result
    c.requires.0 c.requires.1.1.0 c.requires.1.1.1 c.get_at.ensures c.put_at.ensures c.put.ensures
