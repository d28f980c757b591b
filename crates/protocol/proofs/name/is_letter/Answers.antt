-- `name::is_letter` meets its contract, range by range.
use mathlib.Core.Bool.{true, false}
use mathlib.Core.Path.{◌≡◌, sym, ◌∙◌}
use Prim.Native.Nat.{ℕ}
use lib.Dec.{eqb}
use Rattle.protocol.specs.Name.{between, is_letter}
use Rattle.protocol.proofs.name.is_letter.Goals as goal

module _ (c : ℕ) where
  small : between 97 122 c ≡ true → true ≡ is_letter c
  unfolding is_letter
  small a = rw a

  digit : between 97 122 c ≡ false → between 48 57 c ≡ true → true ≡ is_letter c
  unfolding is_letter
  digit a b = rw (a, b)

  mark : between 97 122 c ≡ false → between 48 57 c ≡ false → between 45 46 c ≡ true → true ≡ is_letter c
  unfolding is_letter
  mark a b d = rw (a, b, d)

  other : between 97 122 c ≡ false → between 48 57 c ≡ false → between 45 46 c ≡ false → eqb c 95 ≡ is_letter c
  unfolding is_letter
  other a b d = rw (a, b, d)

pub returns-then-is_between : goal.returns-then-is_between
returns-then-is_between c = small _ (sym c.is_between.ensures ∙ c.if-is_between.true)

pub returns-then-is_between-2 : goal.returns-then-is_between-2
returns-then-is_between-2 c =
    digit _ (sym c.is_between.ensures ∙ c.if-is_between.false) (sym c.is_between-2.ensures ∙ c.if-is_between-2.true)

pub returns-then-is_between-3 : goal.returns-then-is_between-3
returns-then-is_between-3 c =
    mark _ (sym c.is_between.ensures ∙ c.if-is_between.false) (sym c.is_between-2.ensures ∙ c.if-is_between-2.false)
    (sym c.is_between-3.ensures ∙ c.if-is_between-3.true)

pub returns : goal.returns
returns c =
    other _ (sym c.is_between.ensures ∙ c.if-is_between.false) (sym c.is_between-2.ensures ∙ c.if-is_between-2.false)
    (sym c.is_between-3.ensures ∙ c.if-is_between-3.false)
