-- `trailer::is_formed` meets its contract.
use borrow.Author.Tests.{eq-eqb, ne_eqb}
use Rattle.capture_convert.proofs.trailer.is_formed.Goals as goal

pub returns-then-mark-eq-MARK : goal.returns-then-mark-eq-MARK
returns-then-mark-eq-MARK c = rw (eq-eqb c.args.mark 0x5443 c.if-mark-eq-MARK.true)

pub returns : goal.returns
returns c = rw (ne_eqb c.args.mark 0x5443 c.if-mark-eq-MARK.false)
