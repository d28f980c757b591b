-- `view::follow_up_due` meets its contract.
use Rattle.allocatee.proofs.Views.{none-due, some-due}
use Rattle.allocatee.proofs.view.follow_up_due.Goals as goal

pub returns-then-pending-eq0 : goal.returns-then-pending-eq0
returns-then-pending-eq0 c = let a = c.args in none-due a.bytes.now a.t c.pending.result c.pending.ensures.0 c.if-pending-eq0.true

pub returns : goal.returns
returns c =
    let a = c.args in
    some-due a.bytes.now a.t c.pending.result c.pending.ensures.0 c.if-pending-eq0.false c.delay.result c.age.result c.delay.ensures c.age.ensures
