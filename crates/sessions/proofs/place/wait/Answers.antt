-- `place::wait` meets its contract: the free blocks, the key, and the session's fields.
use mathlib.Core.Path.{◌∙◌}
use native.Mathlib.Omega.{arith}
use Rattle.bits.proofs.Octets.{octets-all}
use Rattle.sessions.proofs.Places.{waits}
use Rattle.sessions.proofs.Waited.{waited}
use borrow.Author.Rules.{rules}
use Rattle.sessions.proofs.place.wait.Goals as goal

pub write-requires : goal.write-requires
write-requires c =
    let p = c.requires in
    ((p.place, omega (arith, p.ready.long, c.put_u32.auto.s, c.put_u64.auto.s)), (omega (arith, p.len), (p.expected, p.follows)))

pub returns : goal.returns
returns c =
    let a = c.args in
    let p = c.requires in
    let o = octets-all a.state.now (search rules) in
    waits a.state.now _ _ _ a.i a.k a.c c.free_after-free.result c.free_after-free.ensures c.put_u64.ensures c.put_u32.ensures c.write.ensures
    ∙ waited a.state.now a.i a.k a.c o (search rules) (search rules) p
