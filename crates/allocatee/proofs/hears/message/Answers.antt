-- `hears::message` meets its contract.
use Rattle.allocatee.proofs.Hearing.{on-taken, on-waits}
use Rattle.allocatee.proofs.hears.message.Goals as goal

pub returns-then-takes : goal.returns-then-takes
returns-then-takes c =
    let a = c.args in
    on-taken a.bytes.now a.q a.node a.u.now c.is_own-own.result c.takes.result c.is_own-own.ensures c.takes.ensures c.if-takes.true c.node.new.bytes c.node.ensures

pub returns : goal.returns
returns c =
    let a = c.args in
    on-waits a.bytes.now a.q a.node a.u.now c.is_own-own.result c.takes.result c.is_own-own.ensures c.takes.ensures c.if-takes.false c.skipped.result c.skipped.ensures
    c.timer.new.bytes c.pending.new.bytes c.timer.ensures c.pending.ensures c.wait.result c.wait.ensures
