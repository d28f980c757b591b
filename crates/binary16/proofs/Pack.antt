-- A pattern and its parts: the significand and the scale of a pattern made of them, and the pattern of a significand and a scale.
use mathlib.Core.Path.{◌≡◌, refl, ap, ap₂, ◌∙◌}
use mathlib.Core.Logic.{◌⊎◌, inl, inr}
use Prim.Native.Nat.{ℕ, zero, suc, ◌+◌, ◌-◌, ◌*◌, ◌/◌, ◌%◌, ◌^◌, ◌≤◌, ◌<◌, min}
use native.Mathlib.Nat.{one-mul, mul-le-mul_right, mod-lt, pow-suc, eq-or-lt_of_le}
use native.Mathlib.Omega.{arith}
use lib.Arith.{digits_div, digits_mod}
use lib.Pow.{pow_pos, split}
use Rattle.binary16.specs.Format.{significand, scale, magnitude}

min-one : (e : ℕ) → min (suc e) 1 ≡ 1
min-one e = omega arith

suc-sub : (e : ℕ) → suc e - 1 ≡ e
suc-sub e = omega arith

-- a field above 0, and one of 0
module _ (m e f : ℕ) (h : f < 2 ^ m) where
  pub high-significand : significand m (suc e * 2 ^ m + f) ≡ 2 ^ m + f
  unfolding significand
  high-significand =
      rw (digits_div (suc e) h, digits_mod (suc e) h, min-one) (ap (λ (x : ℕ). x + f) (one-mul (2 ^ m)))

  pub high-scale : scale m (suc e * 2 ^ m + f) ≡ e
  unfolding scale
  high-scale = rw (digits_div (suc e) h) (suc-sub e)

low-div : (m c : ℕ) → c < 2 ^ m → c / 2 ^ m ≡ 0
low-div m c h = ap (λ (x : ℕ). x / 2 ^ m) (omega arith) ∙ digits_div 0 h

low-mod : (m c : ℕ) → c < 2 ^ m → c % 2 ^ m ≡ c
low-mod m c h = ap (λ (x : ℕ). x % 2 ^ m) (omega arith) ∙ digits_mod 0 h

pub low-significand : (m c : ℕ) → c < 2 ^ m → significand m c ≡ c
unfolding significand
low-significand m c h = rw (low-div m c h, low-mod m c h) (omega arith)

pub low-scale : (m c : ℕ) → c < 2 ^ m → scale m c ≡ 0
unfolding scale
low-scale m c h = rw (low-div m c h)

-- what holds of any pattern
repacked : (x p r : ℕ) → (x - 1) * p + (min x 1 * p + r) ≡ x * p + r
repacked zero p r = omega arith
repacked (suc a) p r = rw (suc-sub, min-one) (omega arith)

pub repack : (m c : ℕ) → scale m c * 2 ^ m + significand m c ≡ c
unfolding scale significand
repack m c = repacked (c / 2 ^ m) (2 ^ m) (c % 2 ^ m) ∙ split c m

pub significand-lt : (m c : ℕ) → significand m c < 2 ^ m + 2 ^ m
unfolding significand
significand-lt m c =
    let a : min (c / 2 ^ m) 1 ≤ 1 = omega arith in
    let b : min (c / 2 ^ m) 1 * 2 ^ m ≤ 1 * 2 ^ m = mul-le-mul_right (2 ^ m) a in
    let d : c % 2 ^ m < 2 ^ m = mod-lt c (pow_pos m) in
    omega arith

full : (x p r : ℕ) → 0 < x → p ≤ min x 1 * p + r
full zero p r h = omega arith
full (suc a) p r h = rw min-one (omega arith)

pub significand-ge : (m c : ℕ) → 0 < scale m c → 2 ^ m ≤ significand m c
unfolding scale significand
significand-ge m c h = full (c / 2 ^ m) (2 ^ m) (c % 2 ^ m) (omega arith)

pub magnitude-is : (m c : ℕ) → magnitude m c ≡ significand m c * 2 ^ scale m c
unfolding magnitude
magnitude-is m c = refl

-- k * 2 ^ m + q, with q of m + 1 digits, or of fewer at k = 0, or just one more
pub pack-significand : (m k q : ℕ) → 2 ^ m ≤ q → q < 2 ^ m + 2 ^ m → significand m (k * 2 ^ m + q) ≡ q
pack-significand m k q a b =
    ap (significand m) (omega arith) ∙ high-significand m k (q - 2 ^ m) (omega arith) ∙ omega arith

pub pack-scale : (m k q : ℕ) → 2 ^ m ≤ q → q < 2 ^ m + 2 ^ m → scale m (k * 2 ^ m + q) ≡ k
pack-scale m k q a b = ap (scale m) (omega arith) ∙ high-scale m k (q - 2 ^ m) (omega arith)

pub pack-normal : (m k q : ℕ) → 2 ^ m ≤ q → q < 2 ^ m + 2 ^ m → magnitude m (k * 2 ^ m + q) ≡ q * 2 ^ k
pack-normal m k q a b = magnitude-is m _ ∙ ap₂ (λ (x y : ℕ). x * 2 ^ y) (pack-significand m k q a b) (pack-scale m k q a b)

pack-low : (m q : ℕ) → q < 2 ^ m → magnitude m (0 * 2 ^ m + q) ≡ q * 2 ^ 0
pack-low m q h =
    ap (magnitude m) (omega arith) ∙ magnitude-is m q ∙ ap₂ (λ (x y : ℕ). x * 2 ^ y) (low-significand m q h) (low-scale m q h)

pack-top : (m k : ℕ) → magnitude m (k * 2 ^ m + (2 ^ m + 2 ^ m)) ≡ (2 ^ m + 2 ^ m) * 2 ^ k
pack-top m k =
    ap (magnitude m) (omega arith)
    ∙ magnitude-is m (suc (suc k) * 2 ^ m + 0)
    ∙ ap₂ (λ (x y : ℕ). x * 2 ^ y) (high-significand m (suc k) 0 (pow_pos m)) (high-scale m (suc k) 0 (pow_pos m))
    ∙ rw pow-suc (omega arith)

pub pack : (m k q : ℕ) → (k ≡ 0) ⊎ (2 ^ m ≤ q) → q ≤ 2 ^ m + 2 ^ m → magnitude m (k * 2 ^ m + q) ≡ q * 2 ^ k
pack m k q d b = elim (eq-or-lt_of_le b) [ inl e ↦ rw e (pack-top m k) | inr l ↦ go d l ]
  where
    go : (k ≡ 0) ⊎ (2 ^ m ≤ q) → q < 2 ^ m + 2 ^ m → magnitude m (k * 2 ^ m + q) ≡ q * 2 ^ k
    go (inr a) l = pack-normal m k q a l
    go (inl z) l = rw z (low (native.Mathlib.Decide.dec_lt q (2 ^ m)))
      where
        low : Dec (q < 2 ^ m) → magnitude m (0 * 2 ^ m + q) ≡ q * 2 ^ 0
        low (yes s) = pack-low m q s
        low (no s) = pack-normal m 0 q (omega arith) l
