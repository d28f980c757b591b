-- `place::proceed` meets its contract: passed over, too long, or taken.
use mathlib.Core.Path.{sym, ◌∙◌}
use mathlib.Core.Bool.{true, false}
use native.Mathlib.Omega.{arith}
use Rattle.bits.proofs.Octets.{octets-all}
use Rattle.state.specs.Layout.{session_at}
use Rattle.receiver.proofs.Steps.{coded-is, fits, over-ready, over-waits, passed, too_long, held-len, awaited-at, reason-at, toggle-at}
use borrow.Author.Rules.{rules}
use Rattle.receiver.proofs.place.proceed.Goals as goal

pub overflow_add-c : goal.overflow_add-c
overflow_add-c c =
    let a = c.args in
    let q = c.requires in
    let o = octets-all a.state.now (search rules) in
    omega (arith, (over-ready a.state.now a.i a.k a.c a.f a.p.now a.out.now q o).1, q.payload)

pub over-requires : goal.over-requires
over-requires c =
    let a = c.args in
    let q = c.requires in
    let o = octets-all a.state.now (search rules) in
    over-ready a.state.now a.i a.k a.c a.f a.p.now a.out.now q o

pub wait-requires : goal.wait-requires
wait-requires c =
    let a = c.args in
    let q = c.requires in
    let o = octets-all a.state.now (search rules) in
    over-waits a.state.now a.i a.k a.c a.f a.p.now a.out.now q o c.over.result c.over.ensures

pub returns-then-c-p-gt-GATHERED : goal.returns-then-c-p-gt-GATHERED
returns-then-c-p-gt-GATHERED c =
    let a = c.args in
    let q = c.requires in
    let o = octets-all a.state.now (search rules) in
    let n = awaited-at (session_at a.state.now a.i) a.c (coded-is a.state.now a.i a.k a.c a.f a.p.now a.out.now q o) a.f a.p.now c.awaited.result c.awaited.ensures true c.if-awaited.true in
    too_long a.state.now a.i a.k a.c a.f a.p.now a.out.now q o n (omega (arith, c.if-c-p-gt-GATHERED.true, held-len a.state.now a.i a.k a.c a.f a.p.now a.out.now q o)) c.over.result c.over.ensures _ c.wait.ensures

pub take-requires : goal.take-requires
take-requires c =
    let a = c.args in
    let q = c.requires in
    let o = octets-all a.state.now (search rules) in
    (q, record { awaited = awaited-at (session_at a.state.now a.i) a.c (coded-is a.state.now a.i a.k a.c a.f a.p.now a.out.now q o) a.f a.p.now c.awaited.result c.awaited.ensures true c.if-awaited.true; few = omega (arith, c.if-c-p-gt-GATHERED.false, held-len a.state.now a.i a.k a.c a.f a.p.now a.out.now q o) })

pub reason-requires : goal.reason-requires
reason-requires c =
    let a = c.args in
    let q = c.requires in
    let o = octets-all a.state.now (search rules) in
    record {
      over = sym c.awaited.ensures ∙ c.if-awaited.false;
      start = q.start;
      toggle = toggle-at (session_at a.state.now a.i) a.c (coded-is a.state.now a.i a.k a.c a.f a.p.now a.out.now q o) (fits a.state.now a.i a.k a.c a.f a.p.now a.out.now q o).toggle;
    }

pub returns : goal.returns
returns c =
    let a = c.args in
    let q = c.requires in
    let o = octets-all a.state.now (search rules) in
    let s = session_at a.state.now a.i in
    let e = coded-is a.state.now a.i a.k a.c a.f a.p.now a.out.now q o in
    passed a.state.now a.i a.k a.c a.f a.p.now a.out.now q o c.reason.result (reason-at s a.c e a.f a.p.now c.reason.result c.reason.ensures)
    (awaited-at s a.c e a.f a.p.now c.awaited.result c.awaited.ensures false c.if-awaited.false)
