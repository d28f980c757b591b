-- `may_follow` meets its contract: the tests are those of the definition, in its order.
use borrow.Author.Tests.{eq-eqb, ne_eqb}
use Rattle.judge_stream.proofs.Rules.{any-id}
use Rattle.judge_stream.proofs.may_follow.Goals as goal

pub returns-then-v-eq2 : goal.returns-then-v-eq2
returns-then-v-eq2 c = let a = c.args in any-id a.k a.v c.if-v-eq2.true

pub returns-then-v-k : goal.returns-then-v-k
returns-then-v-k c = rw (ne_eqb _ _ c.if-v-eq2.false, eq-eqb _ _ c.if-v-k.true)

pub returns-then-v-eq0 : goal.returns-then-v-eq0
returns-then-v-eq0 c =
    rw (ne_eqb _ _ c.if-v-eq2.false, ne_eqb _ _ c.if-v-k.false, eq-eqb _ _ c.if-v-eq0.true) c.is_gap.ensures

pub returns : goal.returns
returns c =
    rw (ne_eqb _ _ c.if-v-eq2.false, ne_eqb _ _ c.if-v-k.false, ne_eqb _ _ c.if-v-eq0.false)
