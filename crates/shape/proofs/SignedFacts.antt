-- Signed numbers: what their code goes by.
use mathlib.Core.Path.{◌≡◌, refl, sym, ap, ◌∙◌}
use mathlib.Core.Bool.{Bool, true, false}
use Prim.Native.Nat.{ℕ, zero, suc, ◌+◌, ◌*◌, ◌-◌, ◌/◌, ◌%◌, ◌^◌, ◌≤◌, ◌<◌}
use native.Mathlib.Nat.{zero-add, pow-suc, mod-eq_of_lt}
use native.Mathlib.Omega.{arith}
use borrow.Author.Tests.{lt-ltb, le-ltb, ltb-true}
use lib.Dec.{T}
use lib.IntN.{ℤ, pos, negsuc, nat_abs, ◌-ℤ◌}
use lib.Signed.{mag, lt_z, non_neg}
use lib.Pow.{pow_mono, pow_pos}
use mir.Syntax.{w64}
use mir.Val.{Fits, SFits, to_z, of_z}
use mir.ValLaws.{to_z-of_z, to_z_pos}
use Rattle.shape.specs.Signed.{signed_of}

pub halves : (w : ℕ) → 1 ≤ w → 2 ^ w ≡ 2 ^ (w - 1) * 2
halves w h = let e : w ≡ suc (w - 1) = omega arith in ap (λ (k : ℕ). 2 ^ k) e ∙ pow-suc 2 (w - 1)

-- ── the code ──

-- -1 less a number
abbrev flip : ℤ → ℤ
flip (pos n) = negsuc n
flip (negsuc n) = pos n

minus : (z : ℤ) → negsuc 0 -ℤ z ≡ flip z
minus (pos zero) = refl
minus (pos (suc n)) = ap (λ (k : ℕ). negsuc (suc k)) (zero-add n)
minus (negsuc n) = let e : suc n - 1 ≡ n = omega arith in rw (le-ltb (suc n) 1 (omega arith), e)

minus-fits : (z : ℤ) → SFits w64 z → SFits w64 (negsuc 0 -ℤ z)
minus-fits (pos n) f = rw (minus (pos n)) (record { sfits = f.sfits })
minus-fits (negsuc n) f = rw (minus (negsuc n)) (record { sfits = f.sfits })

-- what a signed local holds
pub is : (z : ℤ) → SFits w64 z → to_z w64 (of_z w64 z) ≡ z
is z f = to_z-of_z w64 z f

below-zero : (z : ℤ) → SFits w64 z → lt_z z (pos 0) ≡ true → (T (non_neg (negsuc 0 -ℤ z)) × Fits w64 (nat_abs (negsuc 0 -ℤ z))) × (nat_abs (negsuc 0 -ℤ z) ≡ mag z)
below-zero (pos n) f e = absurd (omega (arith, ltb-true n 0 e))
below-zero (negsuc n) f e = rw (minus (negsuc n)) ((tt, record { fits = omega (arith, f.sfits) }), refl)

from_zero : (z : ℤ) → SFits w64 z → lt_z z (pos 0) ≡ false → (T (non_neg z) × Fits w64 (nat_abs z)) × (nat_abs z ≡ mag z)
from_zero (pos n) f e = ((tt, record { fits = omega (arith, f.sfits) }), refl)
from_zero (negsuc n) f e = absurd (let z : ◌≡◌ {A = ℕ} 0 1 = cc in omega arith)

module _ (z : ℤ) (f : SFits w64 z) where
  abbrev held : ℤ
  held = to_z w64 (of_z w64 z)

  -- a test of the sign
  pub sign : (b : Bool) → lt_z held (pos 0) ≡ b → lt_z z (pos 0) ≡ b
  sign b e = sym (ap (λ (y : ℤ). lt_z y (pos 0)) (is z f)) ∙ e

  -- and a call's argument
  pub size_of : (n : ℕ) → n ≡ mag held → n ≡ mag z
  size_of n e = e ∙ ap mag (is z f)

  pub down_fits : SFits w64 (negsuc 0 -ℤ held)
  down_fits = rw (is z f) (minus-fits z f)

  abbrev down : ℤ
  down = to_z w64 (of_z w64 (negsuc 0 -ℤ held))

  pub below : lt_z held (pos 0) ≡ true → (T (non_neg down) × Fits w64 (nat_abs down)) × (nat_abs down ≡ mag z)
  below e = rw (is (negsuc 0 -ℤ held) down_fits, is z f) (below-zero z f (sign true e))

  pub above : lt_z held (pos 0) ≡ false → (T (non_neg held) × Fits w64 (nat_abs held)) × (nat_abs held ≡ mag z)
  above e = rw (is z f) (from_zero z f (sign false e))

-- a power by a shift
module _ (w : ℕ) (h : 1 ≤ w) (k : w ≤ 64) where
  pub shifted : (1 * 2 ^ (w - 1)) % 18446744073709551616 ≡ 2 ^ (w - 1)
  shifted =
      let j : w - 1 ≤ 63 = omega arith in
      let p : 2 ^ (w - 1) ≤ 2 ^ 63 = pow_mono j in
      let e : 1 * 2 ^ (w - 1) ≡ 2 ^ (w - 1) = omega arith in
      ap (λ (n : ℕ). n % 18446744073709551616) e ∙ mod-eq_of_lt (omega arith)

  pub twice : (2 ^ (w - 1) - 1) + 2 ^ (w - 1) + 1 ≡ 2 ^ w
  twice = omega (arith, halves w h, pow_pos (w - 1))

  pub twice-lt : (2 ^ (w - 1) - 1) + 2 ^ (w - 1) < 18446744073709551616
  twice-lt = let p : 2 ^ w ≤ 2 ^ 64 = pow_mono k in omega (arith, twice)

-- t: w bits, all set
module _ (w t : ℕ) (h : 1 ≤ w) (e : t + 1 ≡ 2 ^ w) where
  pub half : t / 2 + 1 ≡ 2 ^ (w - 1)
  half = omega (arith, halves w h)

  pub low : (x : ℕ) → w ≤ 64 → x ≤ t / 2 → to_z w64 x ≡ signed_of w x
  unfolding signed_of
  low x k l =
      let j : w - 1 ≤ 63 = omega arith in
      let p : 2 ^ (w - 1) ≤ 2 ^ 63 = pow_mono j in
      to_z_pos w64 x (omega (arith, half)) ∙ rw (lt-ltb x (2 ^ (w - 1)) (omega (arith, half)))

  module _ (x : ℕ) (k : w ≤ 64) (l : x < 2 ^ w) (o : t / 2 < x) where
    rest_lt : t - x < 2 ^ 63
    rest_lt = let j : w - 1 ≤ 63 = omega arith in let p : 2 ^ (w - 1) ≤ 2 ^ 63 = pow_mono j in omega (arith, half, halves w h)

    rest : to_z w64 (t - x) ≡ pos (t - x)
    rest = to_z_pos w64 (t - x) rest_lt

    pub rest-fits : SFits w64 (negsuc 0 -ℤ to_z w64 (t - x))
    rest-fits = rw rest (minus-fits (pos (t - x)) (record { sfits = rest_lt }))

    pub high : to_z w64 (of_z w64 (negsuc 0 -ℤ to_z w64 (t - x))) ≡ signed_of w x
    unfolding signed_of
    high =
        let q : t - x ≡ 2 ^ w - suc x = omega arith in
        is (negsuc 0 -ℤ to_z w64 (t - x)) rest-fits ∙ ap (λ (z : ℤ). negsuc 0 -ℤ z) rest ∙ minus (pos (t - x))
        ∙ rw (le-ltb x (2 ^ (w - 1)) (omega (arith, half)), q)
