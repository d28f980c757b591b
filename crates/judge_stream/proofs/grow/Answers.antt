-- `grow` meets its contract: the tests are those of the definition, in its order.
use Rattle.judge_stream.proofs.Rules.{too_long, too_short, ended, differs, goes-on}
use Rattle.judge_stream.proofs.grow.Goals as goal

pub returns-then-count-gt-GATHERED : goal.returns-then-count-gt-GATHERED
returns-then-count-gt-GATHERED c = let a = c.args in too_long a.k a.count a.register a.last c.if-count-gt-GATHERED.true

pub returns-then-count : goal.returns-then-count
returns-then-count c =
    let a = c.args in
    too_short a.k a.count a.register a.last c.if-count-gt-GATHERED.false c.if-last.true c.if-k-register.true
    c.if-count.true

pub returns-then-k-register : goal.returns-then-k-register
returns-then-k-register c =
    let a = c.args in
    rw c.rest.ensures
    (ended a.k a.count a.register a.last c.if-count-gt-GATHERED.false c.if-last.true c.if-k-register.true c.if-count.false c.requires.0)

pub returns-then-last : goal.returns-then-last
returns-then-last c =
    let a = c.args in
    differs a.k a.count a.register a.last c.if-count-gt-GATHERED.false c.if-last.true c.if-k-register.false

pub returns : goal.returns
returns c =
    let a = c.args in
    goes-on a.k a.count a.register a.last c.if-count-gt-GATHERED.false c.if-last.false c.requires.0 c.requires.1
