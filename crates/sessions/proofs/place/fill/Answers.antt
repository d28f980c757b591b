-- `place::fill` meets its contract: the session's fields, and then the bytes.
use Rattle.sessions.proofs.Stored.{appends-after, tail-after}
use Rattle.sessions.proofs.place.fill.Goals as goal

pub write-requires : goal.write-requires
write-requires c = let p = c.requires in ((p.0.place, p.0.long), p.1)

pub append-requires : goal.append-requires
append-requires c =
    let a = c.args in
    let p = c.requires in
    appends-after a.state.now a.i a.c p.0.long p.0.place a.n a.p.now _ p.0 c.write.ensures

pub returns : goal.returns
returns c =
    let a = c.args in
    let p = c.requires in
    tail-after a.state.now a.i a.c p.0.long p.0.place a.n a.p.now _ _ c.write.ensures c.append.ensures
