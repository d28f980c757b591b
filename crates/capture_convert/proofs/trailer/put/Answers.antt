-- `trailer::put` meets its contract: four stores, one after the other.
use Rattle.capture_convert.proofs.Trailers.{trailer-stored}
use Rattle.capture_convert.proofs.trailer.put.Goals as goal

pub returns : goal.returns
returns c =
    let a = c.args in
    trailer-stored a.out.now c.put_at.new.s c.put_at-2.new.s c.put_at-3.new.s c.put_at-4.new.s a.at a.count a.sum
    c.requires.0 c.put_at.ensures c.put_at-2.ensures c.put_at-3.ensures c.put_at-4.ensures
