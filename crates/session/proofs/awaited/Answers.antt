-- `awaited` meets its contract: the tests are those of the definition.
use Rattle.session.proofs.Rules.{awaited-interface, awaited-transfer, awaited-toggle, awaited-rest}
use Rattle.session.proofs.awaited.Goals as goal

pub returns-then-f-c-3 : goal.returns-then-f-c-3
returns-then-f-c-3 c =
    let a = c.args in
    awaited-rest a.c a.f c.if-f-c.true c.if-f-c-2.true c.if-f-c-3.true

pub returns-else-f-c-3 : goal.returns-else-f-c-3
returns-else-f-c-3 c =
    let a = c.args in
    awaited-toggle a.c a.f c.if-f-c.true c.if-f-c-2.true c.if-f-c-3.false

pub returns-else-f-c-2 : goal.returns-else-f-c-2
returns-else-f-c-2 c =
    let a = c.args in
    awaited-transfer a.c a.f c.if-f-c.true c.if-f-c-2.false

pub returns-else-f-c : goal.returns-else-f-c
returns-else-f-c c =
    let a = c.args in
    awaited-interface a.c a.f c.if-f-c.false
