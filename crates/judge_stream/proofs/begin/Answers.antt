-- `begin` meets its contract.
use Rattle.judge_stream.proofs.Rules.{begun, not-begun}
use Rattle.judge_stream.proofs.begin.Goals as goal

pub returns-then-v : goal.returns-then-v
returns-then-v c =
    let a = c.args in
    begun a.signature a.v a.p.now c.if-v.true c.«open».result c.«open».ensures

pub returns : goal.returns
returns c = let a = c.args in not-begun a.signature a.v a.p.now c.if-v.false
