-- The values of literals, by their digits.
use mathlib.Core.Path.{◌≡◌, refl, sym, ap, ◌∙◌}
use mathlib.Core.Bool.{Bool, true, false, cond, ◌&&◌}
use mathlib.Core.List.{List, [], ◌∷◌, ◌++◌}
use Prim.Native.Nat.{ℕ, zero, suc, ◌+◌, ◌*◌, ◌-◌, ◌/◌, ◌%◌, ◌^◌, ◌≤◌, ◌<◌, min}
use native.Mathlib.Omega.{arith}
use native.Mathlib.Decide.{dec_le}
use native.Mathlib.Nat.{lt_of_not-le, mul-one, mod-one, div-one, zero-mul, min-eq_left, suc-mul, pow-le-pow_right}
use borrow.Author.Tests.{le-leb, lt-leb, lt-ltb, ne_eqb}
use lib.Dec.{leb, ltb, eqb}
use lib.ListN.{length, take, drop, length-append}
use lib.Seq.{length-take-le, take-add, take-nil, drop-drop, drop-nil}
use Rattle.dsdl_text.specs.declared.class.Class.TheVariants.{Decimal}
use Rattle.dsdl_text.specs.Class.{run}
use Rattle.dsdl_text.specs.Text.{first}
use Rattle.dsdl_text.proofs.Runs.{short}
use Rattle.dsdl_number.proofs.Digits.{decimal, run-below, joined-below}
use Rattle.dsdl_number.proofs.Scaled.{all_of, up_by, whole-part, is-whole}
use Rattle.dsdl_number.proofs.Significands.{padded-length, zero-end}
use Rattle.dsdl_number.specs.Integer.{digit_of, value}
use Rattle.dsdl_number.specs.Number.{Number, whole_part, is_whole, whole, sign_length, digits_in, fraction, past_fraction, is_exponent, exponent, floating}
use Rattle.dsdl_number.specs.inside.Significand.{significand, zeros, padded, are_zero, are_below}

-- ── digits without a point ──

pub no-point : (s : List ℕ) → significand (length s) s ≡ s
no-point [] = refl
no-point (x ∷ xs) = ap (λ (l : List ℕ). x ∷ l) (no-point xs)

pub integer-part : (negative : Bool) (b : ℕ) (s : List ℕ) → whole_part (whole negative (value b s)) ≡ value b (padded (length s) (significand (length s) s))
integer-part negative b s =
    ap (λ (n : ℕ). n / 1) (mul-one (value b s)) ∙ (div-one (value b s)
    ∙ sym (ap (λ (l : List ℕ). value b (padded (length s) l)) (no-point s) ∙ all_of b 0 s))

pub integer-whole : (negative : Bool) (n : ℕ) (s l : List ℕ) → is_whole (whole negative n) ≡ are_zero (drop (length s) (padded (length s) l))
integer-whole negative n s l =
    let m : n * 1 % 1 ≡ 0 = mod-one (n * 1) in
    ap (λ (k : ℕ). eqb k 0) m ∙ sym (zero-end (padded (length s) l) (length s) (omega (arith, padded-length (length s) l)))

-- a point, or none, is no digit
pub fewer : (point : ℕ) (s : List ℕ) → length (significand point s) ≤ length s
fewer zero [] = omega arith
fewer zero (x ∷ xs) = omega arith
fewer (suc point) [] = omega arith
fewer (suc point) (x ∷ xs) = omega (arith, fewer point xs)

-- zeros behind the digits do not count
pub zeros-behind : (n m : ℕ) (l : List ℕ) → length l ≤ m → are_zero (drop n (padded m l)) ≡ are_zero (drop n l)
unfolding are_zero padded
zeros-behind zero zero [] h = refl
zeros-behind zero (suc m) [] h = zeros-behind zero m [] (omega arith)
zeros-behind zero zero (x ∷ xs) h = absurd (omega arith)
zeros-behind zero (suc m) (x ∷ xs) h = ap (λ (t : Bool). eqb (digit_of x) 0 && t) (zeros-behind zero m xs (omega arith))
zeros-behind (suc n) zero [] h = refl
zeros-behind (suc n) (suc m) [] h = zeros-behind n m [] (omega arith) ∙ ap are_zero (drop-nil n)
zeros-behind (suc n) zero (x ∷ xs) h = absurd (omega arith)
zeros-behind (suc n) (suc m) (x ∷ xs) h = zeros-behind n m xs (omega arith)

-- ── a floating literal ──

-- how many characters a fraction takes with its point
abbrev pub taken : ℕ → ℕ
taken f = cond (ltb 0 f) (1 + f) 0

empty : (l : List ℕ) → length l ≡ 0 → l ≡ []
empty [] h = refl
empty (x ∷ xs) h = absurd (omega arith)

-- a fraction is there only behind a point
fraction-by : (t : List ℕ) → fraction t ≡ take (length (fraction t)) (drop 1 t)
fraction-by t = go (eqb (first t) 46) where
  go : (b : Bool) → cond b (digits_in (drop 1 t)) [] ≡ take (length (cond b (digits_in (drop 1 t)) [])) (drop 1 t)
  go true = ap (λ (n : ℕ). take n (drop 1 t)) (sym (length-take-le (run Decimal (drop 1 t)) (drop 1 t) (short Decimal (drop 1 t))))
  go false = refl

one_more : (n : ℕ) → 1 + n ≡ suc n
one_more n = omega arith

behind-first : (n : ℕ) (t : List ℕ) → drop 1 (take (1 + n) t) ≡ take n (drop 1 t)
behind-first n [] = rw one_more (sym (take-nil n))
behind-first n (x ∷ xs) = rw one_more

fraction-taken : (t : List ℕ) (f : ℕ) → f ≡ length (fraction t) → drop 1 (take (taken f) t) ≡ fraction t
fraction-taken t zero e = sym (empty (fraction t) (sym e))
fraction-taken t (suc f) e =
    rw (lt-ltb 0 (suc f) (omega arith)) (behind-first (suc f) t ∙ (ap (λ (n : ℕ). take n (drop 1 t)) e ∙ sym (fraction-by t)))

past-taken : (t : List ℕ) → drop (taken (length (fraction t))) t ≡ past_fraction t
past-taken t = go (ltb 0 (length (fraction t))) where
  go : (b : Bool) → drop (cond b (1 + length (fraction t)) 0) t ≡ cond b (drop (1 + length (fraction t)) t) t
  go true = refl
  go false = refl

-- the digits before a point and behind it
point_at : (a b : List ℕ) → significand (length a) (a ++ b) ≡ a ++ drop 1 b
point_at [] b = refl
point_at (x ∷ xs) b = ap (λ (l : List ℕ). x ∷ l) (point_at xs b)

-- an exponent goes up or down
one_way : (e : List ℕ) → 0 < exponent 43 e → exponent 45 e ≡ 0
one_way e = go (is_exponent e) (eqb (first (drop 1 e)) 45) where
  go : (a b : Bool) → 0 < cond (a && eqb (cond b 45 43) 43) (value 10 (drop (1 + sign_length (drop 1 e)) e)) 0
      → cond (a && eqb (cond b 45 43) 45) (value 10 (drop (1 + sign_length (drop 1 e)) e)) 0 ≡ 0
  go true true h = absurd (omega arith)
  go true false h = refl
  go false b h = refl

-- with many zeros behind it, a number is zero or above every bound
product : (t p v m : ℕ) → t ≤ p → m < t → m < suc v * p
product t p v m h k = omega (arith, suc-mul v p)

above : (v x m : ℕ) → zeros ≤ x → m < 10 ^ zeros → leb (v * 10 ^ x) m ≡ eqb v 0
above zero x m h k = rw zero-mul (le-leb 0 m (omega arith))
above (suc v) x m h k =
    lt-leb (suc v * 10 ^ x) m (product (10 ^ zeros) (10 ^ x) v m (pow-le-pow_right (omega arith) h) k) ∙ sym (ne_eqb (suc v) 0 (λ z. absurd (omega arith)))

module _ (s : List ℕ) where
  abbrev pub before : ℕ
  before = run Decimal s

  abbrev pub behind : ℕ
  behind = length (fraction (drop before s))

  abbrev pub power : List ℕ
  power = past_fraction (drop before s)

  abbrev pub digits : List ℕ
  digits = digits_in s ++ fraction (drop before s)

  pub digits_are : significand before (take (before + taken behind) s) ≡ digits
  digits_are =
      let n : before ≡ length (take before s) = sym (length-take-le before s (short Decimal s)) in
      ap (significand before) (take-add before (taken behind) s)
      ∙ (ap (λ (k : ℕ). significand k (take before s ++ take (taken behind) (drop before s))) n
      ∙ (point_at (take before s) (take (taken behind) (drop before s)) ∙ ap (λ (l : List ℕ). take before s ++ l) (fraction-taken (drop before s) behind refl)))

  pub power-is : drop (before + taken behind) s ≡ power
  power-is = sym (drop-drop (taken behind) before s) ∙ past-taken (drop before s)

  count : length digits ≡ before + behind
  count = length-append (digits_in s) (fraction (drop before s)) ∙ ap (λ (n : ℕ). n + behind) (length-take-le before s (short Decimal s))

  pub small : are_below 10 digits ≡ true
  unfolding are_below
  small = joined-below 10 (digits_in s) (fraction (drop before s)) (run-below Decimal 10 decimal s) (go (eqb (first (drop before s)) 46)) where
    go : (b : Bool) → are_below 10 (cond b (digits_in (drop 1 (drop before s))) []) ≡ true
    go true = run-below Decimal 10 decimal (drop 1 (drop before s))
    go false = refl

  -- the literal with another number of zeros
  abbrev scaled : Bool → ℕ → Number
  scaled negative up = record { negative = negative; digits = value 10 digits; up = up; down = behind + exponent 45 power }

  module _ (negative : Bool) where
    as-scaled : floating negative s ≡ scaled negative (exponent 43 power)
    unfolding floating
    as-scaled = refl

    -- the number that the code judges
    abbrev pub cut : Number
    cut = scaled negative (min (exponent 43 power) (behind + zeros))

    abbrev pub whole_digits : ℕ
    whole_digits = before + min (exponent 43 power) (behind + zeros) - exponent 45 power

    place : length digits + min (exponent 43 power) (behind + zeros) - (behind + exponent 45 power) ≡ whole_digits
    place = omega (arith, count)

    pub cut-part : whole_part cut ≡ value 10 (padded whole_digits digits)
    cut-part = whole-part digits small (min (exponent 43 power) (behind + zeros)) (behind + exponent 45 power) ∙ ap (λ (n : ℕ). value 10 (padded n digits)) place

    pub cut-whole : is_whole cut ≡ are_zero (drop whole_digits digits)
    cut-whole = is-whole digits small (min (exponent 43 power) (behind + zeros)) (behind + exponent 45 power) ∙ ap (λ (n : ℕ). are_zero (drop n digits)) place

    -- all of its digits and zeros
    module _ (up : ℕ) (h : behind + zeros ≤ up) (d : exponent 45 power ≡ 0) where
      many-part : whole_part (scaled negative up) ≡ value 10 digits * 10 ^ (up - behind)
      many-part =
          let n : length digits + up - (behind + exponent 45 power) ≡ length digits + (up - behind) = omega (arith, count) in
          whole-part digits small up (behind + exponent 45 power) ∙ (ap (λ (k : ℕ). value 10 (padded k digits)) n ∙ up_by digits (up - behind))

      many-whole : is_whole (scaled negative up) ≡ true
      many-whole =
          is-whole digits small up (behind + exponent 45 power)
          ∙ zero-end digits (length digits + up - (behind + exponent 45 power)) (omega (arith, count))

    pub cut-alike : (is_whole (floating negative s) ≡ is_whole cut)
        × ((m : ℕ) → m < 10 ^ zeros → leb (whole_part (floating negative s)) m ≡ leb (whole_part cut) m)
    cut-alike = go (dec_le (exponent 43 power) (behind + zeros)) where
      go : Dec (exponent 43 power ≤ behind + zeros) → (is_whole (floating negative s) ≡ is_whole cut)
          × ((m : ℕ) → m < 10 ^ zeros → leb (whole_part (floating negative s)) m ≡ leb (whole_part cut) m)
      go (yes h) =
          let e : floating negative s ≡ cut = as-scaled ∙ ap (scaled negative) (sym (min-eq_left h)) in
          (ap is_whole e, λ m k. ap (λ (d : Number). leb (whole_part d) m) e)
      go (no h) =
          let l = lt_of_not-le h in
          let d = one_way power (omega arith) in
          let u = min (exponent 43 power) (behind + zeros) in
          let a : behind + zeros ≤ u = omega arith in
          let b : behind + zeros ≤ exponent 43 power = omega arith in (
            ap is_whole as-scaled ∙ (many-whole (exponent 43 power) b d ∙ sym (many-whole u a d)),
            λ m k. ap (λ (n : Number). leb (whole_part n) m) as-scaled
                ∙ (ap (λ (n : ℕ). leb n m) (many-part (exponent 43 power) b d) ∙ (above (value 10 digits) (exponent 43 power - behind) m (omega arith) k
                ∙ sym (ap (λ (n : ℕ). leb n m) (many-part u a d) ∙ above (value 10 digits) (u - behind) m (omega arith) k))),
          )
