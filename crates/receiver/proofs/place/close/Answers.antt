-- `place::close` meets its contract: what was gathered is closed.
use mathlib.Core.Path.{refl}
use native.Mathlib.Omega.{arith}
use Rattle.bits.proofs.Octets.{octets-all}
use Rattle.receiver.proofs.Steps.{over-ready, over-waits, ended, gathered-all, blocks-small, len_is, first-few}
use borrow.Author.Rules.{rules}
use Rattle.receiver.proofs.place.close.Goals as goal

pub gather-requires : goal.gather-requires
gather-requires c =
    let a = c.args in
    let q = c.requires in
    let o = octets-all a.state.now (search rules) in
    let f = blocks-small a.state.now a.i a.k a.c a.f a.p.now a.out.now q.0 o q.1.0.awaited q.1.0.few in
    let l = len_is a.state.now a.i a.k a.c a.f a.p.now a.out.now q.0 o q.1.0.awaited q.1.0.few in
    ((q.0.place, q.0.ready.long), ((omega (arith, l, q.1.0.few), omega (arith, l, q.1.0.few)), f))

pub copy_at-requires : goal.copy_at-requires
copy_at-requires c =
    let a = c.args in
    let q = c.requires in
    let o = octets-all a.state.now (search rules) in
    omega (arith, len_is a.state.now a.i a.k a.c a.f a.p.now a.out.now q.0 o q.1.0.awaited q.1.0.few, q.1.0.few, c.gather.auto.all)

pub over-requires : goal.over-requires
over-requires c =
    let a = c.args in
    let q = c.requires in
    let o = octets-all a.state.now (search rules) in
    over-ready a.state.now a.i a.k a.c a.f a.p.now a.out.now q.0 o

pub wait-requires : goal.wait-requires
wait-requires c =
    let a = c.args in
    let q = c.requires in
    let o = octets-all a.state.now (search rules) in
    over-waits a.state.now a.i a.k a.c a.f a.p.now a.out.now q.0 o c.over.result c.over.ensures

pub overflow_add-len : goal.overflow_add-len
overflow_add-len c =
    let a = c.args in
    let q = c.requires in
    let o = octets-all a.state.now (search rules) in
    omega (arith, len_is a.state.now a.i a.k a.c a.f a.p.now a.out.now q.0 o q.1.0.awaited q.1.0.few, q.1.0.few)

pub finish-requires : goal.finish-requires
finish-requires c =
    let a = c.args in
    let q = c.requires in
    let o = octets-all a.state.now (search rules) in
    let l = len_is a.state.now a.i a.k a.c a.f a.p.now a.out.now q.0 o q.1.0.awaited q.1.0.few in
    (omega (arith, l, q.1.0.few, c.gather.auto.all, c.copy_at.auto.dst), (omega (arith, l, q.1.0.few), (q.0.room, λ k. first-few a.state.now a.i a.k a.c a.f a.p.now a.out.now q.0 o q.1.0.awaited q.1.0.few k)))

pub returns : goal.returns
returns c =
    let a = c.args in
    let q = c.requires in
    let o = octets-all a.state.now (search rules) in
    let all = gathered-all a.state.now a.i a.k a.c a.f a.p.now a.out.now q.0 o q.1.0.awaited q.1.0.few _ _ _ refl c.gather.ensures c.copy_at.ensures in
    ended a.state.now a.i a.k a.c a.f a.p.now a.out.now q.0 o q.1.0.awaited q.1.0.few q.1.1 _ c.finish.result _
    (rw all at c.finish.ensures) c.over.result c.over.ensures _ c.wait.ensures
