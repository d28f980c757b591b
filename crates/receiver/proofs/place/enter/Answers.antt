-- `place::enter` meets its contract: closed, or with the frame's bytes.
use mathlib.Core.Path.{◌∙◌}
use native.Mathlib.Omega.{arith}
use Rattle.bits.proofs.Octets.{octets-all}
use Rattle.receiver.proofs.Steps.{len_is, any-blocks, grows, went_on}
use borrow.Author.Rules.{rules}
use Rattle.receiver.proofs.place.enter.Goals as goal

pub close-requires : goal.close-requires
close-requires c = let q = c.requires in (q.0, (q.1.0, c.if-f.true))

pub returns-then-f : goal.returns-then-f
returns-then-f c =
    let a = c.args in
    let q = c.requires in
    let o = octets-all a.state.now (search rules) in
    c.close.ensures ∙ any-blocks a.state.now a.i a.k a.c a.f a.p.now a.out.now q.0 o q.1.0.awaited q.1.0.few c.if-f.true _ _

pub take-requires : goal.take-requires
take-requires c =
    let a = c.args in
    let q = c.requires in
    let o = octets-all a.state.now (search rules) in
    omega (arith, len_is a.state.now a.i a.k a.c a.f a.p.now a.out.now q.0 o q.1.0.awaited q.1.0.few, q.1.0.few)

pub grow-requires : goal.grow-requires
grow-requires c =
    let a = c.args in
    let q = c.requires in
    let o = octets-all a.state.now (search rules) in
    grows a.state.now a.i a.k a.c a.f a.p.now a.out.now q.0 o q.1.0.awaited q.1.0.few c.if-f.false q.1.1 c.take.result c.take.ensures

pub returns : goal.returns
returns c =
    let a = c.args in
    let q = c.requires in
    let o = octets-all a.state.now (search rules) in
    went_on a.state.now a.i a.k a.c a.f a.p.now a.out.now q.0 o q.1.0.awaited q.1.0.few c.if-f.false c.take.result c.take.ensures _ c.grow.ensures
