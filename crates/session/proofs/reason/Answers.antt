-- `reason` meets its contract: the tests, from the last to the first, are those of the definition.
use Rattle.session.proofs.Rules.{reason-start, reason-other}
use Rattle.session.proofs.reason.Goals as goal

pub returns-then-f : goal.returns-then-f
returns-then-f c =
    rw (c.first.ensures, c.first-heard.ensures) (reason-start c.args.c c.args.f c.requires c.if-f.true)

pub returns : goal.returns
returns c =
    rw (c.first-2.ensures, c.first-heard-2.ensures, c.first-within.ensures) (reason-other c.args.c c.args.f c.requires c.if-f.false)
