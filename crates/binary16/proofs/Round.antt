-- `closest n u`: n to the nearest multiple of u, a tie to the even one.
use mathlib.Core.Path.{◌≡◌, refl, ap, ◌∙◌, subst}
use mathlib.Core.Bool.{not}
use Prim.Native.Nat.{ℕ, zero, suc, ◌+◌, ◌-◌, ◌*◌, ◌/◌, ◌%◌, ◌≤◌, ◌<◌, compare, Ordering}
use native.Mathlib.Nat.{mul-le-mul_right, mod-lt, div-add-mod'}
use native.Mathlib.Decide.{dec_lt}
use native.Mathlib.Omega.{arith}
use lib.Dec.{T, is_le, compare_is_eq, eqb, leb→le, nleb→lt, eqb→eq, eqb_refl}
use lib.Arith.{lt_of_le-ne, digits_div}
use lib.Ieee.{nearest}
use lib.Ieee.Nearest.{closest}
use Rattle.binary16.specs.Format.{between}

-- what `compare` says
abbrev Cmp : Ordering → ℕ → ℕ → Type 0
Cmp Ordering.lt a b = a < b
Cmp Ordering.eq a b = a ≡ b
Cmp Ordering.gt a b = b < a

cmp : (a b : ℕ) → Cmp (compare a b) a b
cmp a b = go (compare a b) (leb→le a b) (nleb→lt a b) (eqb→eq a b) (λ (e : a ≡ b). subst (λ (x : ℕ). T (eqb a x)) e (eqb_refl a))
  where
    go : (o : Ordering) → (T (is_le o) → a ≤ b) → (T (not (is_le o)) → b < a) → (T (compare_is_eq o) → a ≡ b) → (a ≡ b → T (compare_is_eq o)) → Cmp o a b
    go Ordering.lt h k e n = lt_of_le-ne (h tt) n
    go Ordering.eq h k e n = e tt
    go Ordering.gt h k e n = k tt

-- q * u lies within half a u of n, and q is even where it is just that
pub record Near (n u q : ℕ) : Type 0 where
  pub over : q * u * 2 ≤ n * 2 + u
  pub under : n * 2 ≤ q * u * 2 + u
  pub tie-over : q * u * 2 ≡ n * 2 + u → q % 2 ≡ 0
  pub tie-under : n * 2 ≡ q * u * 2 + u → q % 2 ≡ 0

even_up : (q : ℕ) → (q + q % 2) % 2 ≡ 0
even_up q = omega arith

near_of : (o : Ordering) (n u q r : ℕ) → q * u + r ≡ n → r < u → Cmp o (r * 2) u → Near n u (nearest q o)
near_of Ordering.lt n u q r e h c =
    record { over = omega arith; under = omega arith; tie-over = λ t. absurd (omega arith); tie-under = λ t. absurd (omega arith) }
near_of Ordering.gt n u q r e h c =
    record { over = omega arith; under = omega arith; tie-over = λ t. absurd (omega arith); tie-under = λ t. absurd (omega arith) }
near_of Ordering.eq n u q r e h c =
    let b : q % 2 ≤ 1 = omega arith in
    let p : q % 2 * u ≤ 1 * u = mul-le-mul_right u b in
    record { over = omega arith; under = omega arith; tie-over = λ t. even_up q; tie-under = λ t. even_up q }

pub near : (n u : ℕ) → 0 < u → Near n u (closest n u)
near n u h = near_of (compare (n % u * 2) u) n u (n / u) (n % u) (div-add-mod' n u) (mod-lt n h) (cmp (n % u * 2) u)

-- no multiple of u is nearer
module _ (n u q w : ℕ) (p : 0 < u) (k : Near n u q) where
  less : w < q → w * u + u ≤ q * u
  less h = let a : suc w * u ≤ q * u = mul-le-mul_right u h in omega arith

  more : q < w → q * u + u ≤ w * u
  more h = let a : suc q * u ≤ w * u = mul-le-mul_right u h in omega arith

  pub nearer : between n (q * u) ≤ between n (w * u)
  nearer = go (dec_lt w q) (dec_lt q w)
    where
      go : Dec (w < q) → Dec (q < w) → between n (q * u) ≤ between n (w * u)
      go (yes h) d = let a : w * u + u ≤ q * u = less h in let b : q * u * 2 ≤ n * 2 + u = k.over in let c : n * 2 ≤ q * u * 2 + u = k.under in omega arith
      go (no g) (yes h) = let a : q * u + u ≤ w * u = more h in let b : q * u * 2 ≤ n * 2 + u = k.over in let c : n * 2 ≤ q * u * 2 + u = k.under in omega arith
      go (no g) (no h) = let e : q ≡ w = omega arith in rw e (native.Mathlib.Nat.le_refl _)

  pub tied : between n (q * u) ≡ between n (w * u) → (w ≡ q → ⊥) → q % 2 ≡ 0
  tied t d = go (dec_lt w q) (dec_lt q w)
    where
      go : Dec (w < q) → Dec (q < w) → q % 2 ≡ 0
      go (yes h) _ = let a : w * u + u ≤ q * u = less h in let b : q * u * 2 ≤ n * 2 + u = k.over in let c : n * 2 ≤ q * u * 2 + u = k.under in k.tie-over (omega arith)
      go (no g) (yes h) = let a : q * u + u ≤ w * u = more h in let b : q * u * 2 ≤ n * 2 + u = k.over in let c : n * 2 ≤ q * u * 2 + u = k.under in k.tie-under (omega arith)
      go (no g) (no h) = absurd (d (omega arith))

-- a multiple itself, and what is below half a unit
pub closest-exact : (q u : ℕ) → 0 < u → closest (q * u) u ≡ q
closest-exact q u p = go (closest (q * u) u) (near (q * u) u p)
  where
    go : (x : ℕ) → Near (q * u) u x → x ≡ q
    go x k = at (dec_lt q x) (dec_lt x q)
      where
        at : Dec (q < x) → Dec (x < q) → x ≡ q
        at (yes h) _ = let a : suc q * u ≤ x * u = mul-le-mul_right u h in let b : x * u * 2 ≤ q * u * 2 + u = k.over in absurd (omega arith)
        at (no g) (yes h) = let a : suc x * u ≤ q * u = mul-le-mul_right u h in let b : q * u * 2 ≤ x * u * 2 + u = k.under in absurd (omega arith)
        at (no g) (no h) = omega arith

pub closest-small : (n u : ℕ) → n * 2 < u → closest n u ≡ 0
closest-small n u h = go (closest n u) (near n u (omega arith))
  where
    go : (x : ℕ) → Near n u x → x ≡ 0
    go zero k = refl
    go (suc x) k = let b : suc x * u * 2 ≤ n * 2 + u = k.over in absurd (omega arith)

-- half a unit less one added, and one more at an odd quotient: then the rest is dropped
by-adding-of : (o : Ordering) (n t q r : ℕ) → q * (t * 2) + r ≡ n → r < t * 2 → Cmp o (r * 2) (t * 2)
    → (n + (t - 1) + q % 2) / (t * 2) ≡ nearest q o
by-adding-of Ordering.lt n t q r e h c =
    ap (λ (x : ℕ). x / (t * 2)) (omega arith) ∙ digits_div q {r = r + (t - 1) + q % 2} (omega arith)
by-adding-of Ordering.gt n t q r e h c =
    ap (λ (x : ℕ). x / (t * 2)) (omega arith) ∙ digits_div (suc q) {r = (r + (t - 1) + q % 2) - t * 2} (omega arith)
by-adding-of Ordering.eq n t q r e h c = go (q % 2) (omega arith)
  where
    go : (b : ℕ) → b < 2 → (n + (t - 1) + b) / (t * 2) ≡ q + b
    go zero l = ap (λ (x : ℕ). x / (t * 2)) (omega arith) ∙ digits_div q {r = r + (t - 1)} (omega arith) ∙ omega arith
    go (suc zero) l = ap (λ (x : ℕ). x / (t * 2)) (omega arith) ∙ digits_div (suc q) {r = 0} (omega arith) ∙ omega arith
    go (suc (suc b)) l = absurd (omega arith)

pub by-adding : (n t : ℕ) → 0 < t → (n + (t - 1) + n / (t * 2) % 2) / (t * 2) ≡ closest n (t * 2)
by-adding n t h =
    by-adding-of (compare (n % (t * 2) * 2) (t * 2)) n t (n / (t * 2)) (n % (t * 2)) (div-add-mod' n (t * 2)) (mod-lt n (omega arith)) (cmp (n % (t * 2) * 2) (t * 2))
