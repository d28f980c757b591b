-- A search for the lowest number that a test takes: one turn, and its ends.
use mathlib.Core.Path.{◌≡◌, refl, sym, ap, ap₂, ◌∙◌}
use mathlib.Core.Bool.{Bool, true, false}
use Prim.Native.Nat.{ℕ, zero, suc, ◌+◌, ◌-◌, ◌≤◌, ◌<◌}
use native.Mathlib.Omega.{arith}
use borrow.Author.Tests.{ltb-true, ltb-false}
use lib.Dec.{ltb}
use Rattle.keys.specs.inside.Keys.{lowest}
use Rattle.rules.specs.Tests.{pick}

module _ (f : ℕ → Bool) (i n : ℕ) where
  pub hit : i < n → f i ≡ true → lowest f i (n - i) ≡ i
  unfolding lowest
  hit h e = let k : n - i ≡ suc (n - suc i) = omega arith in rw (k, e)

  pub miss : i < n → f i ≡ false → lowest f i (n - i) ≡ lowest f (suc i) (n - suc i)
  unfolding lowest
  miss h e = let k : n - i ≡ suc (n - suc i) = omega arith in rw (k, e)

  pub none : n ≤ i → lowest f i (n - i) ≡ i
  unfolding lowest
  none h = let k : n - i ≡ 0 = omega arith in rw k

-- by another test that takes the same numbers
pub lowest-same : (f g : ℕ → Bool) → ((j : ℕ) → f j ≡ g j) → (n i : ℕ) → lowest f i n ≡ lowest g i n
unfolding lowest
lowest-same f g e zero i = refl
lowest-same f g e (suc n) i = ap₂ (λ b x. pick b i x) (e i) (lowest-same f g e n (suc i))

-- what it takes, and what it passes
pub lowest-takes : (f : ℕ → Bool) (n i : ℕ) → lowest f i n < i + n → f (lowest f i n) ≡ true
unfolding lowest
lowest-takes f zero i h = absurd (omega arith)
lowest-takes f (suc n) i h = go (f i) refl (lowest-takes f n (suc i)) h where
  go : (b : Bool) → f i ≡ b → (lowest f (suc i) n < suc i + n → f (lowest f (suc i) n) ≡ true) → pick b i (lowest f (suc i) n) < i + suc n
      → f (pick b i (lowest f (suc i) n)) ≡ true
  go true e later h = e
  go false e later h = later (omega arith)

pub lowest-passes : (f : ℕ → Bool) (n i l : ℕ) → i ≤ l → l < lowest f i n → f l ≡ false
unfolding lowest
lowest-passes f zero i l a h = absurd (omega arith)
lowest-passes f (suc n) i l a h = go (f i) refl (λ b. lowest-passes f n (suc i) l b) h where
  go : (b : Bool) → f i ≡ b → (suc i ≤ l → l < lowest f (suc i) n → f l ≡ false) → l < pick b i (lowest f (suc i) n) → f l ≡ false
  go true e later h = absurd (omega arith)
  go false e later h = by (ltb i l) refl where
    by : (t : Bool) → ltb i l ≡ t → f l ≡ false
    by true q = later (ltb-true i l q) h
    by false q = let s : i ≡ l = omega (arith, ltb-false i l q) in ap f (sym s) ∙ e

pub lowest-le : (f : ℕ → Bool) (n i : ℕ) → lowest f i n ≤ i + n
unfolding lowest
lowest-le f zero i = omega arith
lowest-le f (suc n) i = go (f i) (lowest-le f n (suc i)) where
  go : (b : Bool) → lowest f (suc i) n ≤ suc i + n → pick b i (lowest f (suc i) n) ≤ i + suc n
  go true h = omega arith
  go false h = omega arith
