-- `signature::value` meets its contract.
use Rattle.dsdl_text.proofs.Choices.{first, next}
use Rattle.dsdl_nesting.proofs.signature.value.Goals as goal

pub returns-then-done : goal.returns-then-done
returns-then-done c = first _ _ _ c.if-done.true

pub returns : goal.returns
returns c = next _ _ _ _ c.if-done.false c.of.ensures
