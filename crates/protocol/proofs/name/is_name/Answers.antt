-- `name::is_name` meets its contract: the letters passed do not decide.
use mathlib.Core.Path.{sym, ◌∙◌}
use native.Mathlib.Omega.{arith}
use Rattle.protocol.proofs.NameFacts.{empty, bad, next, all}
use Rattle.protocol.proofs.name.is_name.Goals as goal

pub returns-then-s-eq0 : goal.returns-then-s-eq0
returns-then-s-eq0 c = empty c.args.s.now c.if-s-eq0.true

pub returns-then-not-is_letter : goal.returns-then-not-is_letter
returns-then-not-is_letter c =
    bad c.args.s.now c.loop-c.c-index (omega arith) c.loop-c.invariant
    (sym c.is_letter.ensures ∙ c.if-not-is_letter.true)

pub loop-c-preserved : goal.loop-c-preserved
loop-c-preserved c =
    next c.args.s.now c.loop-c.c-index (omega arith) c.loop-c.invariant (sym c.is_letter.ensures ∙ c.if-not-is_letter.false)

pub returns : goal.returns
returns c = all c.args.s.now c.loop-c.c-index (omega arith) (omega arith) c.loop-c.invariant
