-- `restarts` meets its contract: the tests are those of the definition.
use mathlib.Core.Path.{◌∙◌}
use Rattle.session.proofs.Rules.{restarts-old, restarts-start, restarts-not}
use Rattle.session.proofs.restarts.Goals as goal

pub returns-then-age_above : goal.returns-then-age_above
returns-then-age_above c =
    let a = c.args in
    restarts-old a.c a.f c.age_above.result c.age_above.ensures c.if-age_above.true

pub returns-then-f : goal.returns-then-f
returns-then-f c =
    let a = c.args in
    c.begins.ensures ∙ restarts-start a.c a.f c.age_above.result c.age_above.ensures c.if-age_above.false c.if-f.true

pub returns : goal.returns
returns c =
    let a = c.args in
    restarts-not a.c a.f c.age_above.result c.age_above.ensures c.if-age_above.false c.if-f.false
