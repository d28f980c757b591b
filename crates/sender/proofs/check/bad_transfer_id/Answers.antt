-- `check::bad_transfer_id` meets its contract.
use borrow.Author.Tests.{eq-eqb, ne_eqb}
use Rattle.sender.proofs.check.bad_transfer_id.Goals as goal

pub returns-then-transfer_type-eq2 : goal.returns-then-transfer_type-eq2
returns-then-transfer_type-eq2 c = rw (eq-eqb c.args.transfer_type 2 c.if-transfer_type-eq2.true)

pub returns : goal.returns
returns c = rw (ne_eqb c.args.transfer_type 2 c.if-transfer_type-eq2.false)
