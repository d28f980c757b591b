-- `place::take` meets its contract: a single frame, one that lacks a block, and one that does not.
use mathlib.Core.Path.{sym, ◌∙◌}
use Prim.Native.Nat.{◌^◌, ◌<◌}
use native.Mathlib.Omega.{arith}
use Rattle.bits.proofs.Octets.{octets-all}
use Rattle.receiver.proofs.Steps.{over-ready, over-waits, len_is, single-ended}
use Rattle.receiver.proofs.Lacking.{met₂, takes₂, some₂, entered, left_out}
use borrow.Author.Rules.{rules}
use Rattle.receiver.proofs.place.take.Goals as goal
use Rattle.receiver.proofs.place.take.Goals.{Start}

frame-time : (s : Start) → s.args.f.time < 2 ^ 64
frame-time s = search rules

session-time : (s : Start) → s.args.c.time < 2 ^ 64
session-time s = search rules

pub over-requires : goal.over-requires
over-requires c =
    let a = c.args in
    let q = c.requires in
    let o = octets-all a.state.now (search rules) in
    over-ready a.state.now a.i a.k a.c a.f a.p.now a.out.now q.0 o

pub wait-requires : goal.wait-requires
wait-requires c =
    let a = c.args in
    let q = c.requires in
    let o = octets-all a.state.now (search rules) in
    over-waits a.state.now a.i a.k a.c a.f a.p.now a.out.now q.0 o c.over.result c.over.ensures

pub finish-requires : goal.finish-requires
finish-requires c =
    let q = c.requires in
    (omega arith, (omega (arith, q.0.payload), (q.0.room, λ k. omega (arith, q.0.payload))))

pub returns-then-is_single : goal.returns-then-is_single
returns-then-is_single c =
    let a = c.args in
    let q = c.requires in
    let o = octets-all a.state.now (search rules) in
    single-ended a.state.now a.i a.k a.c a.f a.p.now a.out.now q.0 o q.1.awaited q.1.few (sym c.is_single.ensures ∙ c.if-is_single.true) c.finish.result _ c.finish.ensures
    c.over.result c.over.ensures _ c.wait.ensures

pub lacks_block-requires : goal.lacks_block-requires
lacks_block-requires c =
    let a = c.args in
    let q = c.requires in
    let o = octets-all a.state.now (search rules) in
    (q.0.ready, omega (arith, len_is a.state.now a.i a.k a.c a.f a.p.now a.out.now q.0 o q.1.awaited q.1.few, q.1.few))

pub over-requires-then-lacks_block : goal.over-requires-then-lacks_block
over-requires-then-lacks_block c =
    let a = c.args in
    let q = c.requires in
    let o = octets-all a.state.now (search rules) in
    over-ready a.state.now a.i a.k a.c a.f a.p.now a.out.now q.0 o

pub wait-requires-then-lacks_block : goal.wait-requires-then-lacks_block
wait-requires-then-lacks_block c =
    let a = c.args in
    let q = c.requires in
    let o = octets-all a.state.now (search rules) in
    let o₁ = octets-all c.lacks_block.new.state (search rules) in
    over-waits c.lacks_block.new.state a.i a.k a.c a.f a.p.now a.out.now (met₂ a.state.now a.i a.k a.c a.f a.p.now a.out.now q.0 o q.1 c.lacks_block.new.state c.lacks_block.result c.lacks_block.ensures.0 c.lacks_block.ensures.1 (octets-all c.lacks_block.new.state (search rules))) o₁ c.over-then-lacks_block.result c.over-then-lacks_block.ensures

pub returns-then-lacks_block : goal.returns-then-lacks_block
returns-then-lacks_block c =
    let a = c.args in
    let q = c.requires in
    let o = octets-all a.state.now (search rules) in
    left_out a.state.now a.i a.k a.c a.f a.p.now a.out.now q.0 o q.1 c.lacks_block.new.state c.lacks_block.result c.lacks_block.ensures.0 c.lacks_block.ensures.1 (octets-all c.lacks_block.new.state (search rules)) (frame-time (goal.at.returns-then-lacks_block c).Start) (session-time (goal.at.returns-then-lacks_block c).Start) (sym c.is_single.ensures ∙ c.if-is_single.false)
    c.if-lacks_block.true c.over-then-lacks_block.result c.over-then-lacks_block.ensures _ c.wait-then-lacks_block.ensures

pub enter-requires : goal.enter-requires
enter-requires c =
    let a = c.args in
    let q = c.requires in
    let o = octets-all a.state.now (search rules) in
    (met₂ a.state.now a.i a.k a.c a.f a.p.now a.out.now q.0 o q.1 c.lacks_block.new.state c.lacks_block.result c.lacks_block.ensures.0 c.lacks_block.ensures.1 (octets-all c.lacks_block.new.state (search rules)), (takes₂ a.state.now a.i a.k a.c a.f a.p.now a.out.now q.0 o q.1 c.lacks_block.new.state c.lacks_block.result c.lacks_block.ensures.0 c.lacks_block.ensures.1 (octets-all c.lacks_block.new.state (search rules)), some₂ a.state.now a.i a.k a.c a.f a.p.now a.out.now q.0 o q.1 c.lacks_block.new.state c.lacks_block.result c.lacks_block.ensures.0 c.lacks_block.ensures.1 (octets-all c.lacks_block.new.state (search rules)) c.if-lacks_block.false))

pub returns : goal.returns
returns c =
    let a = c.args in
    let q = c.requires in
    let o = octets-all a.state.now (search rules) in
    c.enter.ensures
    ∙ entered a.state.now a.i a.k a.c a.f a.p.now a.out.now q.0 o q.1 c.lacks_block.new.state c.lacks_block.result c.lacks_block.ensures.0 c.lacks_block.ensures.1 (octets-all c.lacks_block.new.state (search rules)) (frame-time (goal.at.returns c).Start) (session-time (goal.at.returns c).Start) (sym c.is_single.ensures ∙ c.if-is_single.false) c.if-lacks_block.false
