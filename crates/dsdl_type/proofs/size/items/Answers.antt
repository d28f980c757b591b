-- `size::items` meets its contract.
use Rattle.dsdl_text.proofs.Choices.{by}
use Rattle.dsdl_type.proofs.Sizes.{no_size, sized}
use Rattle.dsdl_type.proofs.size.items.Goals as goal

pub returns-then-not-is_bracketed : goal.returns-then-not-is_bracketed
returns-then-not-is_bracketed c = no_size c.args.s.now (by c.is_bracketed.ensures c.if-not-is_bracketed.true)

pub returns : goal.returns
returns c =
    sized c.args.s.now _ (by c.is_bracketed.ensures c.if-not-is_bracketed.false) c.items_by.ensures
