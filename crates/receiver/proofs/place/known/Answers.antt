-- `place::known` meets its contract: the session restarts, or goes on.
use mathlib.Core.Path.{◌∙◌}
use mathlib.Core.Bool.{true, false}
use Rattle.bits.proofs.Octets.{octets-all}
use Rattle.receiver.proofs.Known.{coded-is, expected, anew, restarting, meets, going_on}
use Rattle.receiver.proofs.Steps.{restarts-at}
use Rattle.state.proofs.Faultless.{long}
use Rattle.state.specs.Layout.{session_at}
use borrow.Author.Rules.{rules}
use Rattle.receiver.proofs.place.known.Goals as goal

pub load-c-requires : goal.load-c-requires
load-c-requires c =
    let a = c.args in
    let q = c.requires in
    let o = octets-all a.state.now (search rules) in
    (q.held.0, long a.state.now q.called.sound)

pub restarts-requires : goal.restarts-requires
restarts-requires c =
    let a = c.args in
    let q = c.requires in
    let o = octets-all a.state.now (search rules) in
    (expected a.state.now a.i a.k a.f a.p.now a.out.now q.called o q.held.0 q.held.1.0 q.held.1.1 c.load-c.result c.load-c.ensures, q.called.transfer)

pub begin-requires : goal.begin-requires
begin-requires c =
    let a = c.args in
    let q = c.requires in
    let o = octets-all a.state.now (search rules) in
    record { called = q.called; idle = ((q.held.0, q.held.1.0), anew a.state.now a.i a.k a.f a.p.now a.out.now q.called o q.held.0 q.held.1.0 q.held.1.1 c.load-c.result c.load-c.ensures c.expects.result c.expects.ensures c.restart-q.result c.restart-q.ensures) }

pub returns-then-restarts : goal.returns-then-restarts
returns-then-restarts c =
    let a = c.args in
    let q = c.requires in
    let o = octets-all a.state.now (search rules) in
    c.begin.ensures ∙ restarting a.state.now a.i a.k a.f a.p.now a.out.now q.called o q.held.0 q.held.1.0 q.held.1.1 c.load-c.result c.load-c.ensures c.expects.result c.expects.ensures c.restart-q.result c.restart-q.ensures
    (restarts-at (session_at a.state.now a.i) c.load-c.result (coded-is a.state.now a.i a.k a.f a.p.now a.out.now q.called o q.held.0 q.held.1.0 q.held.1.1 c.load-c.result c.load-c.ensures) a.f a.p.now c.restarts.result c.restarts.ensures true c.if-restarts.true)

pub proceed-requires : goal.proceed-requires
proceed-requires c =
    let a = c.args in
    let q = c.requires in
    let o = octets-all a.state.now (search rules) in
    meets a.state.now a.i a.k a.f a.p.now a.out.now q.called o q.held.0 q.held.1.0 q.held.1.1 c.load-c.result c.load-c.ensures
    (restarts-at (session_at a.state.now a.i) c.load-c.result (coded-is a.state.now a.i a.k a.f a.p.now a.out.now q.called o q.held.0 q.held.1.0 q.held.1.1 c.load-c.result c.load-c.ensures) a.f a.p.now c.restarts.result c.restarts.ensures false c.if-restarts.false)

pub returns : goal.returns
returns c =
    let a = c.args in
    let q = c.requires in
    let o = octets-all a.state.now (search rules) in
    c.proceed.ensures ∙ going_on a.state.now a.i a.k a.f a.p.now a.out.now q.called o q.held.0 q.held.1.0 q.held.1.1 c.load-c.result c.load-c.ensures
    (restarts-at (session_at a.state.now a.i) c.load-c.result (coded-is a.state.now a.i a.k a.f a.p.now a.out.now q.called o q.held.0 q.held.1.0 q.held.1.1 c.load-c.result c.load-c.ensures) a.f a.p.now c.restarts.result c.restarts.ensures false c.if-restarts.false)
