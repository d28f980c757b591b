-- `follow` meets its contract: between transfers the frame may begin one, inside one it may go on.
use mathlib.Core.Path.{sym, ◌∙◌}
use Rattle.judge_stream.proofs.Rules.{restarted, not-next, grown, not-grown}
use Rattle.judge_stream.proofs.follow.Goals as goal

pub returns-then-may_follow : goal.returns-then-may_follow
returns-then-may_follow c =
    let a = c.args in
    restarted a.signature a.v a.p.now a.k c.if-k-eq0.true (sym c.if-may_follow.true ∙ c.may_follow.ensures) c.begin.result
    c.begin.ensures

pub returns-then-k-eq0 : goal.returns-then-k-eq0
returns-then-k-eq0 c =
    let a = c.args in
    not-next a.signature a.v a.p.now a.k c.if-k-eq0.true (sym c.if-may_follow.false ∙ c.may_follow.ensures)

pub returns-then-continues : goal.returns-then-continues
returns-then-continues c =
    let a = c.args in
    grown a.signature a.v a.p.now a.k c.if-k-eq0.false (sym c.if-continues.true ∙ c.continues.ensures) c.over-register.result c.over-register.ensures
    c.grow.result c.grow.ensures

pub returns : goal.returns
returns c =
    let a = c.args in
    not-grown a.signature a.v a.p.now a.k c.if-k-eq0.false (sym c.if-continues.false ∙ c.continues.ensures)
