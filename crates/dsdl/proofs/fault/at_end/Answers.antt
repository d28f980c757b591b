-- `fault::at_end` meets its contract.
use Rattle.dsdl_text.proofs.Choices.{first, next}
use borrow.Author.Tests.{lt-ltb, le-ltb}
use mathlib.Core.Path.{refl}
use Rattle.dsdl.proofs.fault.at_end.Goals as goal

pub returns-then-s-lt2 : goal.returns-then-s-lt2
returns-then-s-lt2 c = first _ _ _ (lt-ltb _ _ c.if-s-lt2.true)

pub returns : goal.returns
returns c = next _ _ _ _ (le-ltb _ _ c.if-s-lt2.false) refl
