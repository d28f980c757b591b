-- `line::next` meets its contract.
use Rattle.dsdl_text.proofs.LineEnds.{returned, with-feed, without-feed, last}
use native.Mathlib.Omega.{arith}
use Rattle.dsdl_text.proofs.line.next.Goals as goal

pub returns-then-text-behind-eq10 : goal.returns-then-text-behind-eq10
returns-then-text-behind-eq10 c = (with-feed c.args.text.now c.args.at c.if-text-at-eq13.true c.if-text-behind-eq10.true, (omega arith, omega arith))

pub returns-else-text-behind-eq10 : goal.returns-else-text-behind-eq10
returns-else-text-behind-eq10 c = (without-feed c.args.text.now c.args.at c.if-text-behind-eq10.false, (omega arith, omega arith))

pub returns-else-behind-text : goal.returns-else-behind-text
returns-else-behind-text c = (last c.args.text.now c.args.at c.if-behind-text.false, (omega arith, omega arith))

pub returns-else-text-at-eq13 : goal.returns-else-text-at-eq13
returns-else-text-at-eq13 c = (returned c.args.text.now c.args.at c.if-text-at-eq13.false, (omega arith, omega arith))
