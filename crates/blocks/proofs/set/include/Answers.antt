-- `set::include` meets its contract.
use mathlib.Core.Path.{◌≡◌, sym, ap, ◌∙◌}
use mathlib.Core.Bool.{Bool, true, false}
use Prim.Native.Nat.{ℕ, ◌+◌}
use native.Mathlib.Omega.{arith}
use lib.Dec.{eqb}
use Rattle.blocks.specs.inside.Bit.{bit_at, including_if, including}
use Rattle.blocks.proofs.Bits.{shifted, bit-zero, added-lt}
use borrow.Author.Rules.{rules}
use Rattle.blocks.proofs.set.include.Goals as goal

by-test : (n b : ℕ) (t r : Bool) → r ≡ eqb (bit_at b n) 1 → r ≡ t → including_if t n b ≡ including n b
unfolding including
by-test n b t r e f = ap (λ (x : Bool). including_if x n b) (sym f ∙ e)

pub returns-then-has : goal.returns-then-has
returns-then-has c = by-test c.args.set c.args.b true c.has.result c.has.ensures c.if-has.true

pub overflow_add-result : goal.overflow_add-result
overflow_add-result c =
    let a = c.args in
    let z = bit-zero a.b a.set (sym c.has.ensures ∙ c.if-has.false) in
    omega (arith, shifted a.b c.requires, added-lt a.b 64 a.set c.requires (search rules) z)

pub returns : goal.returns
returns c =
    let a = c.args in
    ap (λ (x : ℕ). a.set + x) (shifted a.b c.requires) ∙ by-test a.set a.b false c.has.result c.has.ensures c.if-has.false
