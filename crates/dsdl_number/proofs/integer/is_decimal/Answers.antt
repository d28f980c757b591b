-- `integer::is_decimal` meets its contract.
use Rattle.dsdl_text.proofs.Choices.{or-next, by}
use Rattle.dsdl_number.proofs.Literals.{no-positive}
use Rattle.dsdl_number.proofs.integer.is_decimal.Goals as goal

pub returns-then-s-eq0 : goal.returns-then-s-eq0
returns-then-s-eq0 c = or-next _ _ _ (by c.same.ensures c.if-same.false) (no-positive c.args.s.now c.if-s-eq0.true)
