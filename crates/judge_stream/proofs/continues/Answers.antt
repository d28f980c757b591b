-- `continues` meets its contract: the tests are those of the definition, in its order.
use Rattle.judge_stream.proofs.Rules.{other-id, other-transfer, by-toggle}
use Rattle.judge_stream.proofs.continues.Goals as goal

pub returns-then-k-v : goal.returns-then-k-v
returns-then-k-v c =
    let a = c.args in
    other-id a.k a.v c.if-v.false c.if-k-v.true

pub returns-then-k-v-2 : goal.returns-then-k-v-2
returns-then-k-v-2 c =
    let a = c.args in
    other-transfer a.k a.v c.if-v.false c.if-k-v.false c.if-k-v-2.true

pub returns : goal.returns
returns c =
    let a = c.args in
    by-toggle a.k a.v c.if-v.false c.if-k-v.false c.if-k-v-2.false
