-- `pattern::small` meets its contract: nothing left, or rounded.
use mathlib.Core.Path.{sym, ◌∙◌}
use native.Mathlib.Omega.{arith}
use Rattle.binary16.proofs.Steps.{small-none, small-some}
use Rattle.binary16.proofs.pattern.small.Goals as goal

pub returns-then-e-lt102 : goal.returns-then-e-lt102
returns-then-e-lt102 c = (sym (small-none c.args.c (omega arith)), omega arith)

pub returns : goal.returns
returns c =
    (c.rounded.ensures.0 ∙ sym (small-some c.args.c (omega arith) (omega arith)), c.rounded.ensures.1)
