-- `view::request_due` meets its contract.
use Rattle.allocatee.proofs.Views.{is-request-due}
use Rattle.allocatee.proofs.view.request_due.Goals as goal

pub returns : goal.returns
returns c =
    let a = c.args in
    is-request-due a.bytes.now a.t c.period.result c.age.result c.period.ensures c.age.ensures
