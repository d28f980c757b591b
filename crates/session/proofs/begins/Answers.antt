-- `begins` meets its contract: the tests are those of the definition.
use Rattle.session.proofs.Rules.{begins-behind, begins-switch, begins-not}
use Rattle.session.proofs.begins.Goals as goal

pub returns-then-is_behind : goal.returns-then-is_behind
returns-then-is_behind c =
    let a = c.args in
    begins-behind a.c a.f c.is_behind.result c.is_behind.ensures c.if-is_behind.true

pub returns-then-age_above : goal.returns-then-age_above
returns-then-age_above c =
    let a = c.args in
    begins-switch a.c a.f c.is_behind.result c.is_behind.ensures c.if-is_behind.false c.age_above.result c.age_above.ensures c.if-age_above.true

pub returns : goal.returns
returns c =
    let a = c.args in
    begins-not a.c a.f c.is_behind.result c.is_behind.ensures c.if-is_behind.false c.age_above.result c.age_above.ensures c.if-age_above.false
