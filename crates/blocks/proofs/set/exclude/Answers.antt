-- `set::exclude` meets its contract.
use mathlib.Core.Path.{◌≡◌, sym, ap, ◌∙◌}
use mathlib.Core.Bool.{Bool, true, false}
use Prim.Native.Nat.{ℕ, ◌-◌}
use native.Mathlib.Omega.{arith}
use borrow.Author.Tests.{eqb-true}
use lib.Dec.{eqb}
use Rattle.blocks.specs.inside.Bit.{bit_at, excluding_if, excluding}
use Rattle.blocks.proofs.Bits.{shifted, power_le}
use Rattle.blocks.proofs.set.exclude.Goals as goal

by-test : (n b : ℕ) (t r : Bool) → r ≡ eqb (bit_at b n) 1 → r ≡ t → excluding_if t n b ≡ excluding n b
unfolding excluding
by-test n b t r e f = ap (λ (x : Bool). excluding_if x n b) (sym f ∙ e)

pub overflow_sub-result : goal.overflow_sub-result
overflow_sub-result c =
    let a = c.args in
    let o = eqb-true (bit_at a.b a.set) 1 (sym c.has.ensures ∙ c.if-has.true) in
    omega (arith, shifted a.b c.requires, power_le a.b a.set o)

pub returns-then-has : goal.returns-then-has
returns-then-has c =
    let a = c.args in
    ap (λ (x : ℕ). a.set - x) (shifted a.b c.requires) ∙ by-test a.set a.b true c.has.result c.has.ensures c.if-has.true

pub returns : goal.returns
returns c = by-test c.args.set c.args.b false c.has.result c.has.ensures c.if-has.false
