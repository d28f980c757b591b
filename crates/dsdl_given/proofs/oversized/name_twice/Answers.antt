-- `oversized::name_twice` meets its contract: what is left decides.
use Rattle.dsdl_given.proofs.Names.{twice-turn, twice-none}
use Rattle.dsdl_given.specs.Given.{name_twice}
use Rattle.dsdl_given.specs.inside.Places.{definition_at, given}
use native.Mathlib.Nat.{sub-zero}
use native.Mathlib.Omega.{arith}
use Prim.Native.Nat.{ℕ}
use mathlib.Core.Bool.{true, false}
use mathlib.Core.Path.{sym, ap, ◌∙◌}
use Rattle.dsdl_given.proofs.oversized.name_twice.Goals as goal

pub loop-i-init : goal.loop-i-init
loop-i-init c = let a = c.args in ap (λ (k : ℕ). name_twice (given a.source.now a.bounds k)) (sub-zero a.n)

pub is_again-requires : goal.is_again-requires
is_again-requires c = (c.loop-i-test.true, c.requires)

pub returns-then-is_again : goal.returns-then-is_again
returns-then-is_again c =
    let a = c.args in
    sym (twice-turn (definition_at a.source.now a.bounds) c.loop-i.i a.n true (omega arith) (sym c.is_again.ensures ∙ c.if-is_again.true)) ∙ c.loop-i.invariant

pub loop-i-preserved : goal.loop-i-preserved
loop-i-preserved c =
    let a = c.args in
    sym (twice-turn (definition_at a.source.now a.bounds) c.loop-i.i a.n false (omega arith) (sym c.is_again.ensures ∙ c.if-is_again.false)) ∙ c.loop-i.invariant

pub returns : goal.returns
returns c =
    let a = c.args in
    sym (twice-none (definition_at a.source.now a.bounds) c.loop-i.i a.n c.loop-i-test.false) ∙ c.loop-i.invariant
