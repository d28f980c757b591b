-- `place::free_after` meets its contract.
use mathlib.Core.Path.{sym, ◌∙◌}
use native.Mathlib.Omega.{arith}
use Rattle.bits.proofs.Octets.{octets-all}
use Rattle.sessions.proofs.Places.{given-none, given-some, listed_small, count_of}
use borrow.Author.Rules.{rules}
use Rattle.sessions.proofs.place.free_after.Goals as goal

pub returns-then-key-eq0 : goal.returns-then-key-eq0
returns-then-key-eq0 c =
    let a = c.args in
    c.free_with.ensures ∙ given-none a.state.now a.i c.requires.1 (sym c.key.ensures ∙ c.if-key-eq0.true)

pub needed-requires : goal.needed-requires
needed-requires c =
    let a = c.args in
    let p = c.requires in
    omega (arith, count_of a.state.now p.0 (octets-all a.state.now (search rules)) a.i p.1 (λ z. c.if-key-eq0.false (c.key.ensures ∙ z)) c.count-len.result c.count-len.ensures)

pub free_with-requires-2 : goal.free_with-requires-2
free_with-requires-2 c =
    let a = c.args in
    let p = c.requires in
    let o = octets-all a.state.now (search rules) in
    let l = listed_small a.state.now p.0 o a.i p.1 (λ z. c.if-key-eq0.false (c.key.ensures ∙ z)) c.count-len.result c.count-len.ensures c.needed.result c.needed.ensures in
    ((p.1, p.0.long), l)

pub returns : goal.returns
returns c =
    let a = c.args in
    let p = c.requires in
    let o = octets-all a.state.now (search rules) in
    c.free_with-2.ensures ∙ given-some a.state.now p.0 o a.i p.1 (λ z. c.if-key-eq0.false (c.key.ensures ∙ z)) c.count-len.result c.count-len.ensures c.needed.result c.needed.ensures
