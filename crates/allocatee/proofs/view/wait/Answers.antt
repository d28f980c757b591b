-- `view::wait` meets its contract.
use Rattle.allocatee.proofs.Views.{wait-request, wait-follow-up}
use Rattle.allocatee.proofs.view.wait.Goals as goal

pub returns-then-pending-eq0 : goal.returns-then-pending-eq0
returns-then-pending-eq0 c =
    let a = c.args in
    wait-request a.bytes.now a.t c.pending.result c.pending.ensures.0 c.if-pending-eq0.true c.period.result c.age.result c.less.result c.period.ensures c.age.ensures c.less.ensures

pub returns : goal.returns
returns c =
    let a = c.args in
    wait-follow-up a.bytes.now a.t c.pending.result c.pending.ensures.0 c.if-pending-eq0.false c.delay.result c.age-2.result c.less-2.result c.delay.ensures c.age-2.ensures c.less-2.ensures
