-- `marks::all_given` meets its contract.
use Rattle.dsdl_nesting.proofs.Levels.{all-messages}
use Rattle.dsdl_given.specs.inside.Places.{definition_at}
use native.Mathlib.Omega.{arith}
use mathlib.Core.Path.{◌∙◌}
use Rattle.dsdl_nesting.proofs.marks.all_given.Goals as goal

pub returns : goal.returns
returns c =
    c.all-2.ensures
    ∙ all-messages (definition_at c.args.source.now c.args.bounds) c.args.n (omega (arith, c.requires.0.few)) c.all.result c.all.ensures.row
    c.messages-m.result c.next.result c.requires.1 c.messages-m.ensures c.next.ensures
