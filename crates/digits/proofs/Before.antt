-- Laws of `before`.
use mathlib.Core.Path.{◌≡◌, refl}
use mathlib.Core.Bool.{Bool, true, false}
use mathlib.Core.List.{List, [], ◌∷◌}
use Prim.Native.Nat.{ℕ, zero, suc, ◌≤◌, ◌<◌}
use native.Mathlib.Omega.{arith}
use lib.Dec.{eqb}
use borrow.Author.Tests.{eqb-true, eq-eqb, ne_eqb}
use lib.ListN.{length, get_or, drop}
use lib.Seq.{drop-cons}
use Rattle.rules.specs.Tests.{pick}
use Rattle.digits.specs.Find.{before}

-- the search stops at c
pub hit : (c : ℕ) (s : List ℕ) (i : ℕ) → i < length s → get_or s i 0 ≡ c → before c (drop i s) ≡ 0
unfolding before
hit c s i h e = rw (drop-cons s i 0, eq-eqb (get_or s i 0) c e)

-- and goes on past another character
pub miss : (c : ℕ) (s : List ℕ) (i : ℕ) → i < length s → (get_or s i 0 ≡ c → ⊥) → before c (drop i s) ≡ suc (before c (drop (suc i) s))
unfolding before
miss c s i h e = rw (drop-cons s i 0, ne_eqb (get_or s i 0) c e)

pub past : (c : ℕ) (s : List ℕ) (i : ℕ) → length s ≤ i → before c (drop i s) ≡ 0
unfolding before
past c [] zero h = refl
past c [] (suc i) h = refl
past c (x ∷ xs) zero h = absurd (omega arith)
past c (x ∷ xs) (suc i) h = past c xs i (omega arith)

-- there it is
pub at_before : (c : ℕ) (xs : List ℕ) → before c xs < length xs → get_or xs (before c xs) 0 ≡ c
unfolding before
at_before c [] h = absurd (omega arith)
at_before c (x ∷ xs) h = go (eqb x c) refl (at_before c xs) h where
  go : (b : Bool) → eqb x c ≡ b → (before c xs < length xs → get_or xs (before c xs) 0 ≡ c) → pick b 0 (suc (before c xs)) < suc (length xs)
      → get_or (x ∷ xs) (pick b 0 (suc (before c xs))) 0 ≡ c
  go true q ih l = eqb-true x c q
  go false q ih l = ih (omega arith)
