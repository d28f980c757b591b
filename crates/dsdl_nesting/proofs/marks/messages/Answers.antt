-- `marks::messages` meets its contract.
use Rattle.dsdl_nesting.proofs.Kept.{none, one_more}
use native.Mathlib.Omega.{arith}
use Prim.Native.Nat.{ℕ}
use mathlib.Core.Bool.{not}
use mathlib.Core.List.{List}
use mathlib.Core.Path.{◌≡◌, ap, ◌∙◌}
use Rattle.dsdl.specs.Definition.{lines_of, is_service}
use Rattle.dsdl_nesting.proofs.marks.messages.Goals as goal

pub loop-i-init : goal.loop-i-init
loop-i-init c = none _ _ _ _ (omega (arith, c.requires.few))

pub text-requires : goal.text-requires
text-requires c = c.requires.holds c.loop-i.i c.loop-i-test.true

pub loop-i-preserved : goal.loop-i-preserved
loop-i-preserved c =
    one_more _ _ _ _ (omega (arith, c.requires.few)) c.loop-i.i c.loop-i.r _ c.loop-i-test.true c.loop-i.invariant
    (ap not (c.is_service.ensures ∙ ap (λ (t : List ℕ). is_service (lines_of t)) c.text.ensures.0))

pub returns : goal.returns
returns c = let e : c.loop-i.i ≡ c.args.n = omega arith in rw e at c.loop-i.invariant
