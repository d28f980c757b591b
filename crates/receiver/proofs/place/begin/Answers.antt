-- `place::begin` meets its contract.
use mathlib.Core.Path.{◌∙◌}
use Prim.Native.Nat.{◌^◌, ◌<◌}
use Rattle.bits.proofs.Octets.{octets-all}
use Rattle.receiver.proofs.Begun.{waits, met₁, begun}
use borrow.Author.Rules.{rules}
use Rattle.receiver.proofs.place.begin.Goals as goal
use Rattle.receiver.proofs.place.begin.Goals.{Start}

frame-time : (s : Start) → s.args.f.time < 2 ^ 64
frame-time s = search rules

session-time : (s : Start) → s.args.c.time < 2 ^ 64
session-time s = search rules

pub wait-requires : goal.wait-requires
wait-requires c =
    let a = c.args in
    let q = c.requires in
    let o = octets-all a.state.now (search rules) in
    waits a.state.now a.i a.k a.c a.f a.p.now a.out.now q.called o q.idle.0.0 q.idle.0.1 q.idle.1

pub proceed-requires : goal.proceed-requires
proceed-requires c =
    let a = c.args in
    let q = c.requires in
    let o = octets-all a.state.now (search rules) in
    met₁ a.state.now a.i a.k a.c a.f a.p.now a.out.now q.called o q.idle.0.0 q.idle.0.1 q.idle.1 (frame-time (goal.at.proceed-requires c).Start) (session-time (goal.at.proceed-requires c).Start) c.wait.new.state c.wait.ensures (octets-all c.wait.new.state (search rules))

pub returns : goal.returns
returns c =
    let a = c.args in
    let q = c.requires in
    let o = octets-all a.state.now (search rules) in
    c.proceed.ensures ∙ begun a.state.now a.i a.k a.c a.f a.p.now a.out.now q.called o q.idle.0.0 q.idle.0.1 q.idle.1 (frame-time (goal.at.returns c).Start) (session-time (goal.at.returns c).Start) c.wait.new.state c.wait.ensures (octets-all c.wait.new.state (search rules))
