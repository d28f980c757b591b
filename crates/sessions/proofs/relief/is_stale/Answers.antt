-- `relief::is_stale` meets its contract.
use Rattle.sessions.proofs.Stale.{stale-yes, stale-no}
use Rattle.sessions.proofs.relief.is_stale.Goals as goal

pub returns-then-is_old : goal.returns-then-is_old
returns-then-is_old c =
    let a = c.args in
    stale-yes a.state.now a.t a.i c.is_old.result c.is_old.ensures c.if-is_old.true c.count.result c.count.ensures

pub returns : goal.returns
returns c =
    let a = c.args in
    stale-no a.state.now a.t a.i c.is_old.result c.is_old.ensures c.if-is_old.false
