-- `sets::all` meets its contract.
use Rattle.dsdl_nesting.proofs.Rows.{no_rows, one-row}
use native.Mathlib.Omega.{arith}
use mathlib.Core.Path.{◌≡◌}
use Rattle.dsdl_nesting.proofs.sets.all.Goals as goal

pub loop-i-init : goal.loop-i-init
loop-i-init c = no_rows _ _ _ (omega (arith, c.requires.few))

pub of-requires : goal.of-requires
of-requires c = (c.loop-i-test.true, c.requires)

pub loop-i-preserved : goal.loop-i-preserved
loop-i-preserved c =
    one-row _ _ _ (omega (arith, c.requires.few)) c.loop-i.i c.loop-i.sets _ c.loop-i-test.true c.loop-i.invariant c.of.ensures

pub returns : goal.returns
returns c = let e : c.loop-i.i ≡ c.args.n = omega arith in rw e at c.loop-i.invariant
