-- The code's expressions.
use mathlib.Core.Path.{◌≡◌, refl, sym, ap, ap₂, ◌∙◌, subst}
use Prim.Native.Nat.{ℕ, suc, ◌+◌, ◌-◌, ◌*◌, ◌/◌, ◌%◌, ◌^◌, ◌≤◌, ◌<◌, min, compare}
use native.Mathlib.Nat.{le_trans, le_of_eq, lt_of_le_of_lt, lt_of_lt_of_le, mul-lt-mul_of_pos_right, le_of_lt, pow-suc}
use native.Mathlib.Omega.{arith}
use lib.Pow.{pow_pos, pow_mono, shr_lt}
use lib.Count.{count_leading_zeros, leading_top}
use lib.Ieee.Fits.{nearest-le}
use lib.Ieee.Nearest.{closest}
use Rattle.binary16.specs.Format.{significand, scale, magnitude}
use Rattle.binary16.specs.Convert.{widened_code, rounded_code}
use Rattle.binary16.proofs.Pack.{significand-lt, magnitude-is, low-significand, low-scale}
use Rattle.binary16.proofs.Shift.{code-high}
use Rattle.binary16.proofs.Round.{by-adding, closest-small}
use Rattle.binary16.proofs.Wide.{Moved, moved-normal, moved-low, wide_is, rounded-is}
use Rattle.binary16.proofs.Near.{same, clipped-code}
use Rattle.binary16.proofs.Only.{rises}

-- ── `rounded` ──
module _ (d : ℕ) (low : 13 ≤ d) (high : d ≤ 24) where
  pub half_le : 2 ^ (d - 1) ≤ 2 ^ 23
  half_le = pow_mono {i = d - 1} {j = 23} (omega arith)

  pub half_is : 1 * 2 ^ (d - 1) % 2 ^ 32 ≡ 2 ^ (d - 1)
  half_is = let a : 2 ^ (d - 1) ≤ 2 ^ 23 = half_le in omega arith

  pub half_pos : 1 ≤ 2 ^ (d - 1)
  half_pos = pow_pos (d - 1)

  twice : 2 ^ (d - 1) * 2 ≡ 2 ^ d
  twice = sym (pow-suc 2 (d - 1)) ∙ ap (λ (x : ℕ). 2 ^ x) (omega arith)

  pub rounded-le : (m : ℕ) → m < 0x1000000 → closest m (2 ^ d) ≤ 2048
  rounded-le m h =
      let a : m < 2 ^ (11 + d) = lt_of_lt_of_le h (pow_mono {i = 24} {j = 11 + d} (omega arith)) in
      le_trans (nearest-le (m / 2 ^ d) (compare (m % 2 ^ d * 2) (2 ^ d))) (shr_lt 11 d a)

  pub rounded-by : (m : ℕ) → (m + (1 * 2 ^ (d - 1) % 2 ^ 32 - 1) + m / 2 ^ d % 2) / 2 ^ d ≡ closest m (2 ^ d)
  rounded-by m = rw (half_is, ← twice) (by-adding m (2 ^ (d - 1)) half_pos)

-- ── `small` and `normal` ──
significand-is : (c : ℕ) → 0 < c / 0x800000 → significand 23 c ≡ c % 0x800000 + 0x800000
unfolding significand
significand-is c h = omega arith

scale-is : (c : ℕ) → scale 23 c ≡ c / 0x800000 - 1
unfolding scale
scale-is c = refl

pub small-none : (c : ℕ) → c / 0x800000 < 102 → rounded_code c ≡ 0
small-none c h =
    let s : scale 23 c ≤ 100 = let e : scale 23 c ≡ c / 0x800000 - 1 = scale-is c in omega arith in
    let a : magnitude 23 c < 2 ^ 24 * 2 ^ 100 =
    lt_of_le_of_lt (le_of_eq (magnitude-is 23 c))
    (lt_of_lt_of_le (mul-lt-mul_of_pos_right (significand-lt 23 c) (pow_pos (scale 23 c))) (native.Mathlib.Nat.mul-le-mul_left (2 ^ 24) (pow_mono s))) in
    rounded-is c 0 (magnitude 23 c) (omega arith) refl
    ∙ ap (λ (x : ℕ). 0 * 1024 + x) (closest-small (magnitude 23 c) (2 ^ 125) (twofold (magnitude 23 c) (2 ^ 124) a))
  where
    twofold : (n p : ℕ) → n < p → n * 2 < p * 2
    twofold n p h = omega arith

pub small-some : (c : ℕ) → 102 ≤ c / 0x800000 → c / 0x800000 < 113 → rounded_code c ≡ closest (c % 0x800000 + 0x800000) (2 ^ (126 - c / 0x800000))
small-some c h l =
    let e : scale 23 c ≡ c / 0x800000 - 1 = scale-is c in
    let d : 13 + (112 - scale 23 c) ≡ 126 - c / 0x800000 = omega arith in
    rounded-is c 0 (magnitude 23 c) (omega arith) refl
    ∙ ap (λ (x : ℕ). 0 * 1024 + x)
    (same c 0 (omega arith) ∙ ap₂ (λ (x y : ℕ). closest x (2 ^ y)) (significand-is c (omega arith)) d)
    ∙ omega arith

high : (c : ℕ) → 113 ≤ c / 0x800000 → rounded_code c ≡ (c / 0x800000 - 113) * 1024 + closest (c % 0x800000 + 0x800000) (2 ^ 13)
high c h =
    let e : scale 23 c ≡ c / 0x800000 - 1 = scale-is c in
    let d : 13 + (112 - scale 23 c) ≡ 13 = omega arith in
    rounded-is c (c / 0x800000 - 113) (magnitude 23 c) (omega arith) refl
    ∙ ap (λ (x : ℕ). (c / 0x800000 - 113) * 1024 + x)
    (same c (c / 0x800000 - 113) (omega arith) ∙ ap₂ (λ (x y : ℕ). closest x (2 ^ y)) (significand-is c (omega arith)) d)

above : (k x : ℕ) → (k * 8192 + x) / 8192 ≡ k + x / 8192
above k x = omega arith

even : (k q : ℕ) → (k * 1024 + q) % 2 ≡ q % 2
even k q = omega arith

-- c is m and a multiple of 2^23 above it
module _ (c : ℕ) (h : 113 ≤ c / 0x800000) where
  abbrev m : ℕ
  m = c % 0x800000 + 0x800000

  odd : c / 8192 % 2 ≡ m / 8192 % 2
  odd =
      let e : c ≡ (c / 0x800000 - 1) * 1024 * 8192 + m = omega arith in
      ap (λ (x : ℕ). x % 2) (ap (λ (x : ℕ). x / 8192) e ∙ above ((c / 0x800000 - 1) * 1024) m) ∙ even (c / 0x800000 - 1) (m / 8192)

  pub normal-is : (c - 0x38000000 + 0xFFF + c / 8192 % 2) / 8192 ≡ rounded_code c
  normal-is =
      let e : c - 0x38000000 + 0xFFF + m / 8192 % 2 ≡ (c / 0x800000 - 113) * 1024 * 8192 + (m + 4095 + m / 8192 % 2) = omega arith in
      ap (λ (x : ℕ). (c - 0x38000000 + 0xFFF + x) / 8192) odd ∙ ap (λ (x : ℕ). x / 8192) e
      ∙ above ((c / 0x800000 - 113) * 1024) (m + 4095 + m / 8192 % 2)
      ∙ ap (λ (x : ℕ). (c / 0x800000 - 113) * 1024 + x) (by-adding m 4096 (omega arith)) ∙ sym (high c h)

-- ── `narrow` ──

-- 65504 is 0x477FE000
limit : magnitude 23 0x477FE000 ≡ 65504 * 2 ^ 149
unfolding magnitude significand scale
limit = refl

pub clipped : (c : ℕ) → 0x477FF000 ≤ c → min 0x7BFF (rounded_code c) ≡ 0x7BFF
clipped c h = clipped-code c (le_trans (le_of_eq (sym limit)) (le_of_lt (rises 23 0x477FE000 c (omega arith))))

-- ── `wide` ──
parts : (c : ℕ) → 1024 ≤ c → (10 + scale 10 c + 102) * 0x800000 + significand 10 c * 8192 ≡ c * 8192 + 0x38000000
unfolding scale significand
parts c h = omega arith

pub wide-normal : (c : ℕ) → 1024 ≤ c → c * 8192 + 0x38000000 ≡ widened_code c
wide-normal c h = sym (wide_is c (moved-normal c h) ∙ parts c h)

pub record Low (c z : ℕ) : Type 0 where
  pub least : 9 ≤ z
  pub most : z ≤ 31
  pub small : c * 2 ^ (z - 8) < 0x1000000
  pub is : (133 - z) * 0x800000 + c * 2 ^ (z - 8) ≡ widened_code c

pub wide_low : (c : ℕ) → 0 < c → c < 1024 → Low c (count_leading_zeros 32 c)
wide_low c p h = go (count_leading_zeros 32 c) (leading_top 32 c p (omega arith))
  where
    go : (z : ℕ) → (j : ℕ) × (z + suc j ≡ 32) × (2 ^ j ≤ c) × (c < 2 ^ suc j) → Low c z
    go z a =
        let v : Moved c = moved-low c a.0 h a.2 a.3 in
        let t : a.0 ≤ 10 = v.small in
        let s : a.0 + (23 - a.0) ≡ 23 = v.sum in
        let e : 23 - a.0 ≡ z - 8 = let b : z + suc a.0 ≡ 32 = a.1 in omega arith in
        let i : a.0 + 0 + 102 ≡ 133 - z = let b : z + suc a.0 ≡ 32 = a.1 in omega arith in
        record {
          least = let b : z + suc a.0 ≡ 32 = a.1 in omega arith;
          most = let b : z + suc a.0 ≡ 32 = a.1 in omega arith;
          small = subst (λ (x : ℕ). c * 2 ^ x < 0x1000000) e (code-high c 0 a.0 (23 - a.0) a.2 a.3 s);
          is =
              sym (wide_is c v
              ∙ ap₂ (λ (x y : ℕ). (a.0 + x + 102) * 0x800000 + y * 2 ^ (23 - a.0)) (low-scale 10 c h) (low-significand 10 c h)
              ∙ ap₂ (λ (x y : ℕ). x * 0x800000 + c * 2 ^ y) i e);
        }
