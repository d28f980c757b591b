-- `signature::next` meets its contract.
use Rattle.dsdl_nesting.proofs.Kept.{none, one_more}
use native.Mathlib.Omega.{arith}
use mathlib.Core.Path.{◌≡◌}
use Rattle.dsdl_nesting.proofs.signature.next.Goals as goal

pub loop-i-init : goal.loop-i-init
loop-i-init c = none _ _ _ _ (omega (arith, c.requires.few))

pub value-requires : goal.value-requires
value-requires c = (c.loop-i-test.true, c.requires)

pub loop-i-preserved : goal.loop-i-preserved
loop-i-preserved c =
    one_more _ _ _ _ (omega (arith, c.requires.few)) c.loop-i.i c.loop-i.r _ c.loop-i-test.true c.loop-i.invariant c.value.ensures

pub returns : goal.returns
returns c = let e : c.loop-i.i ≡ c.args.n = omega arith in rw e at c.loop-i.invariant
