-- `marks::all_within` meets its contract.
use Rattle.dsdl_nesting.proofs.Levels.{all-kept}
use Rattle.dsdl_nesting.specs.Nesting.{chain_max, within}
use Rattle.bits.specs.Tabulate.{tabulate}
use Rattle.dsdl_given.specs.inside.Places.{definition_at}
use native.Mathlib.Omega.{arith}
use mathlib.Core.Bool.{true}
use mathlib.Core.Path.{◌∙◌}
use Rattle.dsdl_nesting.proofs.marks.all_within.Goals as goal

pub returns : goal.returns
returns c =
    let d = definition_at c.args.source.now c.args.bounds in
    c.all.ensures ∙ all-kept d c.args.n (omega (arith, c.requires.few)) (within chain_max (tabulate d 0 c.args.n)) true c.within.result c.within.ensures
