-- Tests one after the other: what `||` and `&&` of them come to, by the first that decides.
use mathlib.Core.Path.{◌≡◌, sym, ◌∙◌}
use mathlib.Core.Bool.{Bool, true, false, cond, ◌||◌}

pub or-first : (a b : Bool) → a ≡ true → true ≡ a || b
or-first a b e = rw e

pub or-next : (a b r : Bool) → a ≡ false → r ≡ b → r ≡ a || b
or-next a b r e h = rw e h

-- a test by the result that it ensures
pub by : {r a b : Bool} → r ≡ a → r ≡ b → a ≡ b
by e h = sym e ∙ h

-- the same of choices
pub first : {A : Type 0} (a : Bool) (x y : A) → a ≡ true → x ≡ cond a x y
first a x y e = rw e

pub next : {A : Type 0} (a : Bool) (x y r : A) → a ≡ false → r ≡ y → r ≡ cond a x y
next a x y r e h = rw e h
