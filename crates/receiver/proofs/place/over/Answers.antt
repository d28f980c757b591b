-- `place::over` meets its contract.
use mathlib.Core.Path.{sym, ap, ◌∙◌}
use mathlib.Core.Bool.{Bool}
use Rattle.rules.specs.Session.{next}
use Rattle.rules.specs.Tests.{pick}
use Rattle.session.specs.inside.Session.{idle}
use Rattle.receiver.proofs.place.over.Goals as goal

pub returns-then-f : goal.returns-then-f
returns-then-f c =
    let a = c.args in
    c.fresh.ensures ∙ ap (λ (b : Bool). idle (next a.c.expected) (pick b a.f.time a.c.time) a.c.follows) (sym c.if-f.true)

pub returns : goal.returns
returns c =
    let a = c.args in
    c.fresh-2.ensures ∙ ap (λ (b : Bool). idle (next a.c.expected) (pick b a.f.time a.c.time) a.c.follows) (sym c.if-f.false)
