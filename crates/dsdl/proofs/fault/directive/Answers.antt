-- `fault::directive` meets its contract.
use Rattle.dsdl_text.proofs.Choices.{first, next, or-first, or-next}
use borrow.Author.Tests.{lt-ltb, le-ltb}
use mathlib.Core.Path.{refl, sym, ◌∙◌}
use Rattle.dsdl.proofs.fault.directive.Goals as goal

pub returns-then-s-gt0 : goal.returns-then-s-gt0
returns-then-s-gt0 c = c.at_fault.ensures ∙ first _ _ _ (sym (or-first _ _ (lt-ltb _ _ c.if-s-gt0.true)))

pub returns-then-s-gt0-2 : goal.returns-then-s-gt0-2
returns-then-s-gt0-2 c = c.at_fault-then-s-gt0-2.ensures ∙ first _ _ _ (sym (or-next _ _ _ (le-ltb _ _ c.if-s-gt0.false) (sym (lt-ltb _ _ c.if-s-gt0-2.true))))

pub returns : goal.returns
returns c = next _ _ _ _ (sym (or-next _ _ _ (le-ltb _ _ c.if-s-gt0.false) (sym (le-ltb _ _ c.if-s-gt0-2.false)))) refl
