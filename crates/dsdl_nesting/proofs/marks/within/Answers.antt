-- `marks::within` meets its contract.
use Rattle.dsdl_nesting.proofs.Levels.{four}
use Rattle.dsdl_given.specs.inside.Places.{definition_at}
use native.Mathlib.Omega.{arith}
use Rattle.dsdl_nesting.proofs.marks.within.Goals as goal

pub returns : goal.returns
returns c =
    four (definition_at c.args.source.now c.args.bounds) c.args.n (omega (arith, c.requires.few)) c.all-sets.result c.all-sets.ensures.row c.next-one.result c.next-two.result
    c.next-three.result c.next-one.ensures c.next-two.ensures c.next-three.ensures c.next.result c.next.ensures
