-- `stage::accepts` meets its contract, case by case.
use mathlib.Core.Path.{sym, ◌∙◌}
use native.Mathlib.Omega.{arith}
use Rattle.allocator.proofs.Stages.{refuses-none, refuses-other, by-room}
use Rattle.allocator.proofs.stage.accepts.Goals as goal

pub returns-then-stage-eq0 : goal.returns-then-stage-eq0
returns-then-stage-eq0 c = let a = c.args in refuses-none a.first a.k a.n (sym c.of-stage.ensures ∙ c.if-stage-eq0.true)

pub returns-then-stage-expected : goal.returns-then-stage-expected
returns-then-stage-expected c =
    let a = c.args in
    refuses-other a.first a.k a.n (λ z. c.if-stage-eq0.false (c.of-stage.ensures ∙ z)) (λ z. c.if-stage-expected.true (c.of-stage.ensures ∙ z ∙ sym c.expected.ensures))

pub returns : goal.returns
returns c =
    let a = c.args in
    by-room a.first a.k a.n (λ z. c.if-stage-eq0.false (c.of-stage.ensures ∙ z)) (sym c.of-stage.ensures ∙ c.if-stage-expected.false ∙ c.expected.ensures) (omega arith)
