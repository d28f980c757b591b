-- Laws of `tabulate`, as loops use them.
use mathlib.Core.Path.{◌≡◌, refl, ap, ap₂, ◌∙◌}
use mathlib.Core.List.{List, [], ◌∷◌, ◌++◌}
use Prim.Native.Nat.{ℕ, zero, suc, ◌+◌, ◌≤◌, ◌<◌}
use native.Mathlib.Nat.{zero-add, add-zero}
use native.Mathlib.Omega.{arith}
use lib.ListN.{length, get_or}
use Rattle.bits.specs.Tabulate.{tabulate}

module _ {A : Type 0} (f : ℕ → A) where
  pub tab-append : (i a b : ℕ) → tabulate f i (a + b) ≡ tabulate f i a ++ tabulate f (i + a) b
  unfolding tabulate
  tab-append i zero b = rw (zero-add, add-zero)
  tab-append i (suc a) b =
      let n : suc a + b ≡ suc (a + b) = omega arith in
      let e : suc i + a ≡ i + suc a = omega arith in
      ap (tabulate f i) n ∙ ap (λ (l : List A). f i ∷ l) (tab-append (suc i) a b ∙ ap (λ (k : ℕ). tabulate f (suc i) a ++ tabulate f k b) e)

  pub length-tabulate : (i n : ℕ) → length (tabulate f i n) ≡ n
  unfolding tabulate
  length-tabulate i zero = refl
  length-tabulate i (suc n) = ap suc (length-tabulate (suc i) n)

  pub tab-at : (d : A) (i n k : ℕ) → k < n → get_or (tabulate f i n) k d ≡ f (i + k)
  unfolding tabulate
  tab-at d i zero k h = absurd (omega arith)
  tab-at d i (suc n) zero h = rw add-zero
  tab-at d i (suc n) (suc k) h = let e : suc i + k ≡ i + suc k = omega arith in tab-at d (suc i) n k (omega arith) ∙ ap f e

  pub tab-snoc : (i n : ℕ) → tabulate f i (suc n) ≡ tabulate f i n ++ (f (i + n) ∷ [])
  unfolding tabulate
  tab-snoc i zero = rw add-zero
  tab-snoc i (suc n) = let e : suc i + n ≡ i + suc n = omega arith in ap (λ l. f i ∷ l) (tab-snoc (suc i) n ∙ ap (λ j. tabulate f (suc i) n ++ (f j ∷ [])) e)

pub tab-same : {A : Type 0} (f g : ℕ → A) (n j : ℕ) → ((l : ℕ) → j ≤ l → l < j + n → f l ≡ g l) → tabulate f j n ≡ tabulate g j n
unfolding tabulate
tab-same f g zero j e = refl
tab-same f g (suc n) j e =
    ap₂ (λ x xs. x ∷ xs) (e j (omega arith) (omega arith)) (tab-same f g n (suc j) (λ l h k. e l (omega arith) (omega arith)))
