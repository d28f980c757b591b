-- `is_behind` meets its contract.
use borrow.Author.Tests.{eq-eqb, ne_eqb}
use Rattle.session.proofs.is_behind.Goals as goal

pub returns-then-f-c : goal.returns-then-f-c
returns-then-f-c c = let a = c.args in rw (ne_eqb a.f.interface a.c.follows c.if-f-c.true)

pub returns : goal.returns
returns c =
    let a = c.args in
    rw (eq-eqb a.f.interface a.c.follows c.if-f-c.false)
