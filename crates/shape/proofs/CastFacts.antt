-- Cast modes: the laws over every width, and what the code goes by.
use mathlib.Core.Path.{◌≡◌, refl, sym, ap, ◌∙◌}
use mathlib.Core.Bool.{Bool, true, false}
use mathlib.Core.List.{List}
use Prim.Native.Nat.{ℕ, zero, suc, ◌+◌, ◌*◌, ◌-◌, ◌/◌, ◌%◌, ◌^◌, ◌≤◌, ◌<◌, min}
use native.Mathlib.Nat.{mod-eq_of_lt, mod-lt, min-le_right, min-eq_left}
use native.Mathlib.Omega.{arith}
use borrow.Author.Tests.{lt-ltb, le-ltb, ltb-true, ltb-false}
use lib.Dec.{ltb}
use lib.IntN.{ℤ, pos, negsuc}
use lib.Signed.{mag, lt_z}
use lib.ListN.{length, drop, length-drop}
use lib.Pow.{pow_mono, pow_pos}
use mir.Syntax.{w64}
use mir.Val.{SFits, to_z, of_z}
use Rattle.bits.specs.Order.{unpack, to_bits, from_bits, store}
use Rattle.bits.proofs.Bytes.{length-unpack}
use Rattle.bits.proofs.Numbers.{from_bits-lt}
use Rattle.shape.specs.Cast.{Sign, Cast, unsigned, signed, saturated, truncated, value_of, holds, nearest, low_bits, cast_bits, clip}
use Rattle.shape.specs.Signed.{signed_if, signed_of, in_range}
use Rattle.shape.specs.Laws.{CastLaws}
use Rattle.shape.proofs.SignedFacts.{halves, is}

-- ── low bits ──

pub low-lt : (w : ℕ) (z : ℤ) → low_bits w z < 2 ^ w
unfolding low_bits
low-lt w (pos n) = mod-lt n (pow_pos w)
low-lt w (negsuc n) = omega (arith, pow_pos w)

pub low-pos : (w n : ℕ) → n < 2 ^ w → low_bits w (pos n) ≡ n
unfolding low_bits
low-pos w n h = mod-eq_of_lt h

pub low-neg : (w n : ℕ) → n < 2 ^ w → low_bits w (negsuc n) ≡ 2 ^ w - suc n
unfolding low_bits
low-neg w n h = rw (mod-eq_of_lt h)

-- ── signed numbers ──

module _ (w : ℕ) (h : 1 ≤ w) where
  signed_low : (z : ℤ) → in_range w z ≡ true → signed_of w (low_bits w z) ≡ z
  unfolding in_range signed_of
  signed_low (pos n) e = rw (low-pos w n (omega (arith, halves w h, ltb-true n (2 ^ (w - 1)) e)), e)
  signed_low (negsuc n) e =
      let l : n < 2 ^ (w - 1) = ltb-true n (2 ^ (w - 1)) e in
      let f : ltb (2 ^ w - suc n) (2 ^ (w - 1)) ≡ false = le-ltb (2 ^ w - suc n) (2 ^ (w - 1)) (omega (arith, halves w h)) in
      let k : 2 ^ w - suc (2 ^ w - suc n) ≡ n = omega (arith, halves w h) in
      rw (low-neg w n (omega (arith, halves w h)), f, k)

  module _ (n : ℕ) (l : n < 2 ^ w) where
    by : (b : Bool) → ltb n (2 ^ (w - 1)) ≡ b → (low_bits w (signed_if b w n) ≡ n) × (in_range w (signed_if b w n) ≡ true)
    unfolding in_range
    by true e = (low-pos w n l, e)
    by false e =
        let k : 2 ^ (w - 1) ≤ n = ltb-false n (2 ^ (w - 1)) e in
        (low-neg w (2 ^ w - suc n) (omega arith) ∙ omega arith, lt-ltb (2 ^ w - suc n) (2 ^ (w - 1)) (omega (arith, halves w h)))

    low_signed : (low_bits w (signed_of w n) ≡ n) × (in_range w (signed_of w n) ≡ true)
    unfolding signed_of
    low_signed = by (ltb n (2 ^ (w - 1))) refl

-- ── both ──

pub value_low : (s : Sign) (w : ℕ) (z : ℤ) → 1 ≤ w → holds s w z ≡ true → value_of s w (low_bits w z) ≡ z
value_low unsigned w (pos n) h e = ap pos (low-pos w n (ltb-true n (2 ^ w) e))
value_low unsigned w (negsuc n) h e = absurd (let z : ◌≡◌ {A = ℕ} 0 1 = cc in omega arith)
value_low signed w z h e = signed_low w h z e

pub low_value : (s : Sign) (w n : ℕ) → 1 ≤ w → n < 2 ^ w → (low_bits w (value_of s w n) ≡ n) × (holds s w (value_of s w n) ≡ true)
low_value unsigned w n h l = (low-pos w n l, lt-ltb n (2 ^ w) l)
low_value signed w n h l = low_signed w h n l

at-most : (n m : ℕ) → 1 ≤ m → min n (m - 1) < m
at-most n m h = omega (arith, min-le_right n (m - 1))

below_top : (n m : ℕ) → n < m → min n (m - 1) ≡ n
below_top n m h = min-eq_left (omega arith)

nearest-held : (s : Sign) (w : ℕ) (z : ℤ) → holds s w (nearest s w z) ≡ true
unfolding nearest in_range
nearest-held unsigned w (pos n) = lt-ltb (min n (2 ^ w - 1)) (2 ^ w) (at-most n (2 ^ w) (pow_pos w))
nearest-held unsigned w (negsuc n) = lt-ltb 0 (2 ^ w) (pow_pos w)
nearest-held signed w (pos n) = lt-ltb (min n (2 ^ (w - 1) - 1)) (2 ^ (w - 1)) (at-most n (2 ^ (w - 1)) (pow_pos (w - 1)))
nearest-held signed w (negsuc n) = lt-ltb (min n (2 ^ (w - 1) - 1)) (2 ^ (w - 1)) (at-most n (2 ^ (w - 1)) (pow_pos (w - 1)))

nearest-same : (s : Sign) (w : ℕ) (z : ℤ) → holds s w z ≡ true → nearest s w z ≡ z
unfolding nearest in_range
nearest-same unsigned w (pos n) e = ap pos (below_top n (2 ^ w) (ltb-true n (2 ^ w) e))
nearest-same unsigned w (negsuc n) e = absurd (let z : ◌≡◌ {A = ℕ} 0 1 = cc in omega arith)
nearest-same signed w (pos n) e = ap pos (below_top n (2 ^ (w - 1)) (ltb-true n (2 ^ (w - 1)) e))
nearest-same signed w (negsuc n) e = ap negsuc (below_top n (2 ^ (w - 1)) (ltb-true n (2 ^ (w - 1)) e))

-- ── casts ──

pub cast-lt : (s : Sign) (c : Cast) (w : ℕ) (z : ℤ) → cast_bits s c w z < 2 ^ w
cast-lt s saturated w z = low-lt w (nearest s w z)
cast-lt s truncated w z = low-lt w z

saturates : (s : Sign) (w : ℕ) (z : ℤ) → 1 ≤ w → clip s saturated w z ≡ nearest s w z
saturates s w z h = value_low s w (nearest s w z) h (nearest-held s w z)

pub cast-keeps : (s : Sign) (c : Cast) (w : ℕ) (z : ℤ) → 1 ≤ w → holds s w z ≡ true → clip s c w z ≡ z
cast-keeps s saturated w z h e = saturates s w z h ∙ nearest-same s w z e
cast-keeps s truncated w z h e = value_low s w z h e

-- an unsigned number, of no bits too
pub keeps-unsigned : (c : Cast) (w : ℕ) (z : ℤ) → holds unsigned w z ≡ true → clip unsigned c w z ≡ z
keeps-unsigned c w (negsuc n) e = absurd (let z : ◌≡◌ {A = ℕ} 0 1 = cc in omega arith)
keeps-unsigned saturated w (pos n) e =
    ap (λ (z : ℤ). pos (low_bits w z)) (nearest-same unsigned w (pos n) e) ∙ ap pos (low-pos w n (ltb-true n (2 ^ w) e))
keeps-unsigned truncated w (pos n) e = ap pos (low-pos w n (ltb-true n (2 ^ w) e))

cast_is : (s : Sign) (c : Cast) (w n : ℕ) → 1 ≤ w → n < 2 ^ w → cast_bits s c w (value_of s w n) ≡ n
cast_is s saturated w n h l = let v = low_value s w n h l in ap (λ (z : ℤ). low_bits w z) (nearest-same s w (value_of s w n) v.1) ∙ v.0
cast_is s truncated w n h l = (low_value s w n h l).0

pub cast-back : (s : Sign) (c : Cast) (w n : ℕ) → n < 2 ^ w → cast_bits s c w (value_of s w n) ≡ n
cast-back s c zero n l = omega (arith, cast-lt s c 0 (value_of s 0 n))
cast-back s c (suc w) n l = cast_is s c (suc w) n (omega arith) l

pub cast-laws : CastLaws
cast-laws =
    record {
      fits = cast-lt;
      saturates = saturates;
      keeps = cast-keeps;
      back = λ s c w n h l. (cast-back s c w n l, (low_value s w n h l).1);
    }

-- ── the code ──

nearest_positive : (w k : ℕ) → nearest signed w (pos k) ≡ pos (min k (2 ^ (w - 1) - 1))
unfolding nearest
nearest_positive w k = refl

nearest_negative : (w k : ℕ) → nearest signed w (negsuc k) ≡ negsuc (min k (2 ^ (w - 1) - 1))
unfolding nearest
nearest_negative w k = refl

low-of-positive : (w k : ℕ) → low_bits w (pos k) ≡ k % 2 ^ w
unfolding low_bits
low-of-positive w k = refl

low-of-negative : (w k : ℕ) → low_bits w (negsuc k) ≡ 2 ^ w - suc (k % 2 ^ w)
unfolding low_bits
low-of-negative w k = refl

pub unsigned_negative : (w : ℕ) (z : ℤ) → lt_z z (pos 0) ≡ true → 0 ≡ cast_bits unsigned saturated w z
unfolding nearest
unsigned_negative w (pos k) g = absurd (omega (arith, ltb-true k 0 g))
unsigned_negative w (negsuc k) g = sym (low-pos w 0 (pow_pos w))

-- t: w bits, all set
module _ (w t : ℕ) (h : 1 ≤ w) (e : t + 1 ≡ 2 ^ w) where
  pub unsigned-positive : (z : ℤ) (n : ℕ) → n ≡ mag z → lt_z z (pos 0) ≡ false → (r : ℕ) → r ≡ min n t → r ≡ cast_bits unsigned saturated w z
  unfolding nearest
  unsigned-positive (pos k) n f g r q =
      let m : t ≡ 2 ^ w - 1 = omega arith in
      q ∙ ap (λ (j : ℕ). min j t) f ∙ ap (λ (j : ℕ). min k j) m ∙ sym (low-pos w (min k (2 ^ w - 1)) (at-most k (2 ^ w) (pow_pos w)))
  unsigned-positive (negsuc k) n f g r q = absurd (let z : ◌≡◌ {A = ℕ} 0 1 = cc in omega arith)

  top-half : t / 2 ≡ 2 ^ (w - 1) - 1
  top-half = omega (arith, halves w h)

  module _ (z : ℤ) (n : ℕ) (f : n ≡ mag z) (r : ℕ) (q : r ≡ min n (t / 2)) where
    cut : r ≡ min (mag z) (2 ^ (w - 1) - 1)
    cut = q ∙ ap (λ (j : ℕ). min j (t / 2)) f ∙ ap (λ (j : ℕ). min (mag z) j) top-half

    pub signed-fits : r ≤ t
    signed-fits = omega (arith, q, min-le_right n (t / 2))

    cut-lt : r < 2 ^ w
    cut-lt = omega (arith, signed-fits)

    pub signed-negative : lt_z z (pos 0) ≡ true → t - r ≡ cast_bits signed saturated w z
    signed-negative g = by_sign z cut g where
      by_sign : (y : ℤ) → r ≡ min (mag y) (2 ^ (w - 1) - 1) → lt_z y (pos 0) ≡ true → t - r ≡ cast_bits signed saturated w y
      by_sign (pos k) c g = absurd (omega (arith, ltb-true k 0 g))
      by_sign (negsuc k) c g =
          let a : t - r ≡ 2 ^ w - suc r = omega arith in
          a ∙ sym (low-neg w r cut-lt) ∙ ap (λ (j : ℕ). low_bits w (negsuc j)) c ∙ ap (λ (y : ℤ). low_bits w y) (sym (nearest_negative w k))

    pub signed-positive : lt_z z (pos 0) ≡ false → r ≡ cast_bits signed saturated w z
    signed-positive g = by_sign z cut g where
      by_sign : (y : ℤ) → r ≡ min (mag y) (2 ^ (w - 1) - 1) → lt_z y (pos 0) ≡ false → r ≡ cast_bits signed saturated w y
      by_sign (pos k) c g = sym (low-pos w r cut-lt) ∙ ap (λ (j : ℕ). low_bits w (pos j)) c ∙ ap (λ (y : ℤ). low_bits w y) (sym (nearest_positive w k))
      by_sign (negsuc k) c g = absurd (let z : ◌≡◌ {A = ℕ} 0 1 = cc in omega arith)

  pub lowest-all : (x : ℕ) → x ≤ t → x ≡ x % 2 ^ w
  lowest-all x l = sym (mod-eq_of_lt (omega arith))

  module _ (z : ℤ) (n : ℕ) (f : n ≡ mag z) (r : ℕ) (q : r ≡ n % 2 ^ w) where
    rest : r ≡ mag z % 2 ^ w
    rest = q ∙ ap (λ (j : ℕ). j % 2 ^ w) f

    pub truncated-fits : r ≤ t
    truncated-fits = omega (arith, q, mod-lt n (pow_pos w))

    pub truncated-negative : lt_z z (pos 0) ≡ true → t - r ≡ low_bits w z
    truncated-negative g = by_sign z rest g where
      by_sign : (y : ℤ) → r ≡ mag y % 2 ^ w → lt_z y (pos 0) ≡ true → t - r ≡ low_bits w y
      by_sign (pos k) c g = absurd (omega (arith, ltb-true k 0 g))
      by_sign (negsuc k) c g = let a : t - r ≡ 2 ^ w - suc r = omega arith in a ∙ ap (λ (j : ℕ). 2 ^ w - suc j) c ∙ sym (low-of-negative w k)

    pub truncated-positive : lt_z z (pos 0) ≡ false → r ≡ low_bits w z
    truncated-positive g = by_sign z rest g where
      by_sign : (y : ℤ) → r ≡ mag y % 2 ^ w → lt_z y (pos 0) ≡ false → r ≡ low_bits w y
      by_sign (pos k) c g = c ∙ sym (low-of-positive w k)
      by_sign (negsuc k) c g = absurd (let z : ◌≡◌ {A = ℕ} 0 1 = cc in omega arith)

-- a saturated unsigned number, as it is written
abbrev pub cast : ℕ → ℤ → ℕ
cast w z = cast_bits unsigned saturated w z

-- a number that was given to `number::write`
pub number-given : (m m' : List ℕ) (at w : ℕ) (z : ℤ) → SFits w64 z → m' ≡ store m at (to_bits w (cast w (to_z w64 (of_z w64 z))))
    → m' ≡ store m at (to_bits w (cast w z))
number-given m m' at w z f e = e ∙ ap (λ (y : ℤ). store m at (to_bits w (cast w y))) (is z f)

-- a number that `number::read` gave
module _ (s : List ℕ) (at w : ℕ) (h : w ≤ 63) (l : at + w ≤ length s * 8) (z : ℤ) (e : z ≡ pos (from_bits w (drop at (unpack s)))) where
  pub number-below : from_bits w (drop at (unpack s)) < 2 ^ 63
  number-below =
      let p : 2 ^ w ≤ 2 ^ 63 = pow_mono h in
      omega (arith, from_bits-lt w (drop at (unpack s)) (omega (arith, length-drop at (unpack s), length-unpack s)))

  pub number_read : to_z w64 (of_z w64 z) ≡ pos (from_bits w (drop at (unpack s)))
  number_read =
      ap (λ (y : ℤ). to_z w64 (of_z w64 y)) e ∙ is (pos (from_bits w (drop at (unpack s)))) (record { sfits = number-below })

-- ── signed numbers ──

mag-lt : (w : ℕ) (z : ℤ) → in_range w z ≡ true → mag z < 2 ^ (w - 1)
unfolding in_range
mag-lt w (pos n) e = ltb-true n (2 ^ (w - 1)) e
mag-lt w (negsuc n) e = ltb-true n (2 ^ (w - 1)) e

-- what w bits stand for is held by a signed local
pub signed-held : (w n : ℕ) → 1 ≤ w → w ≤ 64 → n < 2 ^ w → (z : ℤ) → z ≡ signed_of w n → to_z w64 (of_z w64 z) ≡ signed_of w n
signed-held w n h k l z e =
    let j : w - 1 ≤ 63 = omega arith in
    let p : 2 ^ (w - 1) ≤ 2 ^ 63 = pow_mono j in
    let q : mag (signed_of w n) < 2 ^ (w - 1) = mag-lt w (signed_of w n) (low_value signed w n h l).1 in
    ap (λ (y : ℤ). to_z w64 (of_z w64 y)) e ∙ is (signed_of w n) (record { sfits = omega arith })

-- a number that `number::read_signed` gave
module _ (s : List ℕ) (at w : ℕ) (h : 1 ≤ w) (k : w ≤ 64) (l : at + w ≤ length s * 8) where
  pub bits_below : from_bits w (drop at (unpack s)) < 2 ^ w
  bits_below = from_bits-lt w (drop at (unpack s)) (omega (arith, length-drop at (unpack s), length-unpack s))

  pub signed-read : (z : ℤ) → z ≡ signed_of w (from_bits w (drop at (unpack s))) → to_z w64 (of_z w64 z) ≡ signed_of w (from_bits w (drop at (unpack s)))
  signed-read z e = signed-held w (from_bits w (drop at (unpack s))) h k bits_below z e

-- a number that was given to `number::write_signed`
pub signed-given : (m m' : List ℕ) (at w : ℕ) (z : ℤ) → SFits w64 z → m' ≡ store m at (to_bits w (cast_bits signed saturated w (to_z w64 (of_z w64 z))))
    → m' ≡ store m at (to_bits w (cast_bits signed saturated w z))
signed-given m m' at w z f e = e ∙ ap (λ (y : ℤ). store m at (to_bits w (cast_bits signed saturated w y))) (is z f)
