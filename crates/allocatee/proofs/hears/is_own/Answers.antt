-- `hears::is_own` meets its contract.
use Rattle.allocatee.proofs.Hearing.{own-none, own-some}
use Rattle.allocatee.proofs.hears.is_own.Goals as goal

pub returns-then-source-eq0 : goal.returns-then-source-eq0
returns-then-source-eq0 c = let a = c.args in own-none a.bytes.now a.source a.u.now c.if-source-eq0.true

pub returns : goal.returns
returns c = let a = c.args in own-some a.bytes.now a.source a.u.now c.if-source-eq0.false c.matches.result c.matches.ensures
