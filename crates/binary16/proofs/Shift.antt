-- Powers of 2 moved about, the number of digits of a shifted number, and the pattern of a size.
use mathlib.Core.Path.{◌≡◌, refl, sym, ap, ap₂, ◌∙◌, subst}
use Prim.Native.Nat.{ℕ, zero, suc, ◌+◌, ◌-◌, ◌*◌, ◌/◌, ◌^◌, ◌≤◌, ◌<◌}
use native.Mathlib.Nat.{mul_assoc, mul-le-mul_right, mul-lt-mul_of_pos_right, le_antisymm}
use native.Mathlib.Decide.{dec_le}
use native.Mathlib.Omega.{arith}
use lib.Pow.{pow_pos, pow-add, pow_mono, shl-shr}
use lib.Ieee.{size}
use lib.Ieee.Digits.{size-lt, size-le, size_reaches}
use Rattle.binary16.specs.Format.{code_of}

pub shift1 : (x i j a : ℕ) → i + j ≡ a → x * 2 ^ i * 2 ^ j ≡ x * 2 ^ a
shift1 x i j a e = mul_assoc x (2 ^ i) (2 ^ j) ∙ ap (λ (y : ℕ). x * y) (sym (pow-add 2 i j)) ∙ ap (λ (y : ℕ). x * 2 ^ y) e

pub shift2 : (x i j a b : ℕ) → i + j ≡ a + b → x * 2 ^ i * 2 ^ j ≡ x * 2 ^ a * 2 ^ b
shift2 x i j a b e = shift1 x i j (a + b) e ∙ sym (shift1 x a b (a + b) refl)

pub pow-sum : (i j a : ℕ) → i + j ≡ a → 2 ^ i * 2 ^ j ≡ 2 ^ a
pow-sum i j a e = sym (pow-add 2 i j) ∙ ap (λ (y : ℕ). 2 ^ y) e

pub size_is : (n s : ℕ) → 2 ^ s ≤ n → n < 2 ^ suc s → size n ≡ suc s
size_is n s a b = le_antisymm (size-le n (suc s) b) (go (dec_le (suc s) (size n)))
  where
    go : Dec (suc s ≤ size n) → suc s ≤ size n
    go (yes h) = h
    go (no h) =
        let l : size n ≤ s = omega arith in
        let p : 2 ^ size n ≤ 2 ^ s = pow_mono l in
        let q : n < 2 ^ size n = size-lt n in
        omega arith

-- the highest digit of a number above 0
pub highest : (n : ℕ) → 0 < n → (t : ℕ) × (2 ^ t ≤ n) × (n < 2 ^ suc t) × (size n ≡ suc t)
highest n h = go (size n) refl
  where
    go : (s : ℕ) → size n ≡ s → (t : ℕ) × (2 ^ t ≤ n) × (n < 2 ^ suc t) × (size n ≡ suc t)
    go zero e = let q : n < 2 ^ 0 = subst (λ (s : ℕ). n < 2 ^ s) e (size-lt n) in absurd (omega arith)
    go (suc t) e = (t, size_reaches n t (omega arith), subst (λ (s : ℕ). n < 2 ^ s) e (size-lt n), e)

-- the pattern with 23 digits of m * 2 ^ e of the units 2 ^ 125, where m has t + 1 digits
module _ (m e t w : ℕ) (a : 2 ^ t ≤ m) (b : m < 2 ^ suc t) (s : t + w ≡ 23) where
  as_one : m * 2 ^ e * 2 ^ 125 ≡ m * 2 ^ (e + 125)
  as_one = shift1 m e 125 (e + 125) refl

  digits : size (m * 2 ^ e * 2 ^ 125) ≡ suc (t + (e + 125))
  digits =
      size_is (m * 2 ^ e * 2 ^ 125) (t + (e + 125))
      (rw (as_one, pow-add 2 t (e + 125)) (mul-le-mul_right (2 ^ (e + 125)) a))
      (subst (λ (x : ℕ). m * 2 ^ e * 2 ^ 125 < x) (pow-sum (suc t) (e + 125) (suc (t + (e + 125))) (omega arith))
      (rw as_one (mul-lt-mul_of_pos_right b (pow_pos (e + 125)))))

  pub code_is : code_of 23 (m * 2 ^ e * 2 ^ 125) ≡ (t + e + 102) * 2 ^ 23 + m * 2 ^ w
  unfolding code_of
  code_is =
      let k : size (m * 2 ^ e * 2 ^ 125) - 24 ≡ t + e + 102 = ap (λ (x : ℕ). x - 24) digits ∙ omega arith in
      let n : m * 2 ^ e * 2 ^ 125 ≡ m * 2 ^ w * 2 ^ (t + e + 102) = shift2 m e 125 w (t + e + 102) (omega arith) in
      ap₂ (λ (x y : ℕ). x * 2 ^ 23 + y) k (ap₂ (λ (x y : ℕ). x / 2 ^ y) n k ∙ shl-shr (m * 2 ^ w) (t + e + 102))

  pub code-low : 2 ^ 23 ≤ m * 2 ^ w
  code-low = subst (λ (x : ℕ). x ≤ m * 2 ^ w) (pow-sum t w 23 s) (mul-le-mul_right (2 ^ w) a)

  pub code-high : m * 2 ^ w < 2 ^ 23 + 2 ^ 23
  code-high = subst (λ (x : ℕ). m * 2 ^ w < x) (pow-sum (suc t) w 24 (omega arith)) (mul-lt-mul_of_pos_right b (pow_pos w))
