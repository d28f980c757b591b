-- Laws of `every`.
use mathlib.Core.Path.{◌≡◌, refl, sym, ap, ap₂, ◌∙◌}
use mathlib.Core.Bool.{Bool, true, false, ◌&&◌}
use mathlib.Mathlib.Data.Bool.Basic.{and_elim_left, and_elim_right}
use Prim.Native.Nat.{ℕ, zero, suc, ◌+◌, ◌≤◌, ◌<◌}
use native.Mathlib.Omega.{arith}
use borrow.Author.Tests.{ltb-true, ltb-false}
use lib.Dec.{ltb}
use Rattle.bits.specs.Tabulate.{every}

pub every_true : (f : ℕ → Bool) (n i : ℕ) → ((l : ℕ) → i ≤ l → l < i + n → f l ≡ true) → every f i n ≡ true
unfolding every
every_true f zero i e = refl
every_true f (suc n) i e =
    ap (λ (b : Bool). b && every f (suc i) n) (e i (omega arith) (omega arith)) ∙ every_true f n (suc i) (λ l h k. e l (omega arith) (omega arith))

pub every-at : (f : ℕ → Bool) (n i : ℕ) → every f i n ≡ true → (l : ℕ) → i ≤ l → l < i + n → f l ≡ true
unfolding every
every-at f zero i e l h k = absurd (omega arith)
every-at f (suc n) i e l h k = go (λ p. every-at f n (suc i) (and_elim_right (f i) (every f (suc i) n) e) l p (omega arith)) (ltb i l) refl where
  go : (suc i ≤ l → f l ≡ true) → (b : Bool) → ltb i l ≡ b → f l ≡ true
  go later true p = later (ltb-true i l p)
  go later false p =
      let q : i ≡ l = omega (arith, ltb-false i l p) in
      ap f (sym q) ∙ and_elim_left (f i) (every f (suc i) n) e

pub every-false : (f : ℕ → Bool) (n i l : ℕ) → i ≤ l → l < i + n → f l ≡ false → every f i n ≡ false
every-false f n i l h k e = go (every f i n) refl where
  go : (b : Bool) → every f i n ≡ b → b ≡ false
  go false q = refl
  go true q = sym (every-at f n i q l h k) ∙ e

-- two tests of the same numbers are one
pub every-join : (f g h : ℕ → Bool) (n i : ℕ) → ((l : ℕ) → i ≤ l → l < i + n → (f l && g l) ≡ h l) → (every f i n && every g i n) ≡ every h i n
unfolding every
every-join f g h zero i e = refl
every-join f g h (suc n) i e =
    swap (f i) (every f (suc i) n) (g i) (every g (suc i) n)
    ∙ ap₂ (λ a b. a && b) (e i (omega arith) (omega arith)) (every-join f g h n (suc i) (λ l a b. e l (omega arith) (omega arith)))
  where
    swap : (a x b y : Bool) → ((a && x) && (b && y)) ≡ ((a && b) && (x && y))
    swap true true b y = refl
    swap true false true y = refl
    swap true false false y = refl
    swap false x b y = refl
