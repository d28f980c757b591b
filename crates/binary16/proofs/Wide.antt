-- A finite binary16 coming in, without its sign: its f32 is of exactly its size, and goes back to the same pattern.
use mathlib.Core.Path.{◌≡◌, refl, sym, ap, ap₂, ◌∙◌}
use Prim.Native.Nat.{ℕ, zero, suc, ◌+◌, ◌-◌, ◌*◌, ◌^◌, ◌≤◌, ◌<◌}
use native.Mathlib.Decide.{dec_lt}
use native.Mathlib.Omega.{arith}
use lib.Pow.{pow_pos, pow_mono}
use lib.Ieee.{size}
use lib.Ieee.Nearest.{closest}
use Rattle.binary16.specs.Format.{significand, scale, magnitude, code_of}
use Rattle.binary16.specs.Convert.{widened_code, rounded_code}
use Rattle.binary16.proofs.Pack.{low-significand, low-scale, repack, significand-lt, magnitude-is, pack-normal, pack-scale}
use Rattle.binary16.proofs.Shift.{shift1, shift2, highest, code_is, code-low, code-high}
use Rattle.binary16.proofs.Round.{closest-exact}

pub rounded-is : (x k n : ℕ) → scale 23 x - 112 ≡ k → magnitude 23 x ≡ n → rounded_code x ≡ k * 1024 + closest n (2 ^ (125 + k))
unfolding rounded_code
rounded-is x k n a b = ap₂ (λ (i j : ℕ). i * 1024 + closest j (2 ^ (125 + i))) a b

pub scale-le : (c : ℕ) → c < 0x7C00 → scale 10 c ≤ 29
unfolding scale
scale-le c h = omega arith

-- how the digits of a pattern above 0 are moved: t + 1 of them, by w places
pub record Moved (c : ℕ) : Type 0 where
  pub t : ℕ
  pub w : ℕ
  pub low : 2 ^ t ≤ significand 10 c
  pub high : significand 10 c < 2 ^ suc t
  pub sum : t + w ≡ 23
  pub small : t ≤ 10
  pub place : t + scale 10 c + 102 - 112 ≡ scale 10 c

pub normal-low : (c : ℕ) → 1024 ≤ c → 1024 ≤ significand 10 c
unfolding significand
normal-low c h = omega arith

abbrev pub moved-normal : (c : ℕ) → 1024 ≤ c → Moved c
moved-normal c h =
    record { t = 10; w = 13; low = normal-low c h; high = significand-lt 10 c; sum = refl; small = omega arith; place = omega arith }

pub few : (c t : ℕ) → c < 1024 → 2 ^ t ≤ c → t ≤ 10
few c t h a = go (dec_lt 10 t)
  where
    go : Dec (10 < t) → t ≤ 10
    go (no n) = omega arith
    go (yes y) = let p : 2 ^ 10 ≤ 2 ^ t = pow_mono {i = 10} {j = t} (omega arith) in omega arith

abbrev pub moved-low : (c t : ℕ) → c < 1024 → 2 ^ t ≤ c → c < 2 ^ suc t → Moved c
moved-low c t h a b =
    let small : t ≤ 10 = few c t h a in
    record {
      t = t;
      w = 23 - t;
      low = rw (low-significand 10 c h) a;
      high = rw (low-significand 10 c h) b;
      sum = omega arith;
      small = small;
      place = let z : scale 10 c ≡ 0 = low-scale 10 c h in omega arith;
    }

pub moved : (c : ℕ) → 0 < c → Moved c
moved c h = go (dec_lt c 1024)
  where
    go : Dec (c < 1024) → Moved c
    go (no n) = moved-normal c (omega arith)
    go (yes y) = let s = highest c h in moved-low c s.0 y s.1 s.2

module _ (c : ℕ) (v : Moved c) where
  pub wide_is : widened_code c ≡ (v.t + scale 10 c + 102) * 2 ^ 23 + significand 10 c * 2 ^ v.w
  unfolding widened_code
  wide_is =
      ap (λ (x : ℕ). code_of 23 (x * 2 ^ 125)) (magnitude-is 10 c)
      ∙ code_is (significand 10 c) (scale 10 c) v.t v.w v.low v.high v.sum

  digits_low : 2 ^ 23 ≤ significand 10 c * 2 ^ v.w
  digits_low = code-low (significand 10 c) (scale 10 c) v.t v.w v.low v.high v.sum

  digits-high : significand 10 c * 2 ^ v.w < 2 ^ 23 + 2 ^ 23
  digits-high = code-high (significand 10 c) (scale 10 c) v.t v.w v.low v.high v.sum

  exact_above : magnitude 23 (widened_code c) ≡ magnitude 10 c * 2 ^ 125
  exact_above =
      ap (magnitude 23) wide_is
      ∙ pack-normal 23 (v.t + scale 10 c + 102) (significand 10 c * 2 ^ v.w) digits_low digits-high
      ∙ shift2 (significand 10 c) v.w (v.t + scale 10 c + 102) (scale 10 c) 125 (let s : v.t + v.w ≡ 23 = v.sum in omega arith)
      ∙ ap (λ (x : ℕ). x * 2 ^ 125) (sym (magnitude-is 10 c))

  pub wide-lt : c < 0x7C00 → widened_code c < 0x47800000
  wide-lt h =
      let a : significand 10 c * 2 ^ v.w < 2 ^ 23 + 2 ^ 23 = digits-high in
      let b : scale 10 c ≤ 29 = scale-le c h in
      let d : v.t ≤ 10 = v.small in
      rw wide_is (omega arith)

  back_above : rounded_code (widened_code c) ≡ c
  back_above =
      rounded-is (widened_code c) (scale 10 c) (significand 10 c * 2 ^ (125 + scale 10 c))
      (ap (λ (x : ℕ). scale 23 x - 112) wide_is
      ∙ ap (λ (x : ℕ). x - 112)
      (pack-scale 23 (v.t + scale 10 c + 102) (significand 10 c * 2 ^ v.w) digits_low digits-high)
      ∙ v.place)
      (exact_above ∙ ap (λ (x : ℕ). x * 2 ^ 125) (magnitude-is 10 c) ∙ shift1 (significand 10 c) (scale 10 c) 125 (125 + scale 10 c) (omega arith))
      ∙ ap (λ (x : ℕ). scale 10 c * 1024 + x) (closest-exact (significand 10 c) (2 ^ (125 + scale 10 c)) (pow_pos (125 + scale 10 c)))
      ∙ repack 10 c

-- and at 0
pub wide-zero : widened_code 0 ≡ 0
unfolding widened_code magnitude code_of significand scale lib.Ieee.size lib.Ieee.span lib.Ieee.climb
wide-zero = refl

exact-zero : magnitude 23 0 ≡ magnitude 10 0 * 2 ^ 125
unfolding magnitude significand scale
exact-zero = refl

pub exact-code : (c : ℕ) → magnitude 23 (widened_code c) ≡ magnitude 10 c * 2 ^ 125
exact-code zero = ap (magnitude 23) wide-zero ∙ exact-zero
exact-code (suc c) = exact_above (suc c) (moved (suc c) (omega arith))

pub wide-finite : (c : ℕ) → c < 0x7C00 → widened_code c < 0x47800000
wide-finite zero h = rw wide-zero (omega arith)
wide-finite (suc c) h = wide-lt (suc c) (moved (suc c) (omega arith)) h

back-zero : rounded_code 0 ≡ 0
unfolding rounded_code magnitude significand scale
back-zero = refl

pub back-code : (c : ℕ) → rounded_code (widened_code c) ≡ c
back-code zero = ap rounded_code wide-zero ∙ back-zero
back-code (suc c) = back_above (suc c) (moved (suc c) (omega arith))
