-- Laws of digits: what is written is read back, and what is read is what would be written.
use mathlib.Core.Path.{◌≡◌, refl, sym, ap, ap₂, ◌∙◌}
use mathlib.Core.Bool.{Bool, true, false}
use mathlib.Core.List.{List, [], ◌∷◌, ◌++◌}
use mathlib.Core.Logic.{◌⊎◌, inl, inr, ⊎_elim}
use mathlib.Core.Option.{none, some}
use Prim.Native.Nat.{ℕ, zero, suc, ◌+◌, ◌*◌, ◌-◌, ◌/◌, ◌%◌, ◌^◌, ◌≤◌, ◌<◌}
use native.Mathlib.Nat.{one-le-pow, lt-div-mul-add, zero-mul, pow-zero, pow-suc, pow-succ', pow-le-pow_right, mul-le-mul_left, div-one, div-div-eq-div-mul, div-add-mod', mod-lt, mul-add-mod_self_right, mod-eq_of_lt, mul-add-div_right, div-eq_of_lt, add-zero}
use native.Mathlib.Omega.{arith}
use borrow.Author.Tests.{ne_eqb, lt-ltb, le-ltb, ltb-true, ltb-false}
use lib.Dec.{ltb, lit<}
use lib.ListN.{length}
use Rattle.rules.specs.Tests.{pick}
use Rattle.digits.specs.Digits.{glyph, digits, count_in, count_of, digit_of, number_from, number}
use Rattle.digits.specs.Find.{before}

-- a test has one of two answers
decided : (b : Bool) → (b ≡ true) ⊎ (b ≡ false)
decided true = inl refl
decided false = inr refl

-- ── single digits ──

pub glyph-low : (d : ℕ) → d < 10 → glyph d ≡ 48 + d
unfolding glyph
glyph-low d h = rw (lt-ltb d 10 h)

pub glyph-high : (d : ℕ) → 10 ≤ d → glyph d ≡ 55 + d
unfolding glyph
glyph-high d h = rw (le-ltb d 10 h)

pub digit_glyph : (d : ℕ) → d < 16 → digit_of (glyph d) ≡ d
unfolding digit_of
digit_glyph d h = ⊎_elim low high (decided (ltb d 10)) where
  low : ltb d 10 ≡ true → digit_of (glyph d) ≡ d
  low q =
      let k = ltb-true d 10 q in
      rw (glyph-low d k, le-ltb (48 + d) 48 (omega arith), lt-ltb (48 + d) 58 (omega arith)) (omega arith)

  high : ltb d 10 ≡ false → digit_of (glyph d) ≡ d
  high q =
      let k = ltb-false d 10 q in
      rw (
        glyph-high d k,
        le-ltb (55 + d) 48 (omega arith),
        le-ltb (55 + d) 58 (omega arith),
        le-ltb (55 + d) 65 (omega arith),
        lt-ltb (55 + d)
            71 (omega arith),
      ) (omega arith)

pub glyph-digit : (c : ℕ) → digit_of c < 16 → glyph (digit_of c) ≡ c
unfolding digit_of
glyph-digit c = go (ltb c 48) (ltb c 58) (ltb c 65) (ltb c 71) refl refl refl refl where
  go : (p q r s : Bool) → ltb c 48 ≡ p → ltb c 58 ≡ q → ltb c 65 ≡ r → ltb c 71 ≡ s
      → pick p 16 (pick q (c - 48) (pick r 16 (pick s (c - 55) 16))) < 16
      → glyph (pick p 16 (pick q (c - 48) (pick r 16 (pick s (c - 55) 16)))) ≡ c
  go true q r s a b d e h = absurd (omega arith)
  go false true r s a b d e h =
      let x = ltb-false c 48 a in
      let y = ltb-true c 58 b in
      glyph-low (c - 48) (omega arith) ∙ omega arith
  go false false true s a b d e h = absurd (omega arith)
  go false false false true a b d e h =
      let x = ltb-false c 65 d in
      let y = ltb-true c 71 e in
      glyph-high (c - 55) (omega arith) ∙ omega arith
  go false false false false a b d e h = absurd (omega arith)

-- ── numbers ──

pub length_digits : (b w n : ℕ) → length (digits b w n) ≡ w
unfolding digits
length_digits b zero n = refl
length_digits b (suc w) n = ap suc (length_digits b w n)

-- the lowest digit is the last
pub digits-snoc : (b w n : ℕ) → digits b (suc w) n ≡ digits b w (n / b) ++ (glyph (n % b) ∷ [])
unfolding digits
digits-snoc b zero n = rw (pow-zero b, div-one n)
digits-snoc b (suc w) n =
    let e : n / b ^ suc w ≡ n / b / b ^ w = ap (λ (k : ℕ). n / k) (pow-succ' b w) ∙ sym (div-div-eq-div-mul n b (b ^ w)) in
    ap₂ (λ (k : ℕ) (l : List ℕ). glyph (k % b) ∷ l) e (digits-snoc b w n)

-- one more digit
pub taken : (b a c : ℕ) (cs : List ℕ) → digit_of c < b → number_from b a (c ∷ cs) ≡ number_from b (a * b + digit_of c) cs
unfolding number_from
taken b a c cs h = rw (lt-ltb (digit_of c) b h)

pub stopped : (b a c : ℕ) (cs : List ℕ) → b ≤ digit_of c → number_from b a (c ∷ cs) ≡ none
unfolding number_from
stopped b a c cs h = rw (le-ltb (digit_of c) b h)

module _ (b : ℕ) (few : b ≤ 16) (some-digit : 0 < b) where
  -- reading the w lowest digits of n, with the digits above them in hand, gives n
  read-digits : (w n : ℕ) → number_from b (n / b ^ w) (digits b w n) ≡ some n
  unfolding digits number_from
  read-digits zero n = rw (pow-zero b, div-one n)
  read-digits (suc w) n =
      let d = n / b ^ w % b in
      let l : d < b = mod-lt (n / b ^ w) some-digit in
      let g : digit_of (glyph d) ≡ d = digit_glyph d (omega arith) in
      let e : n / b ^ suc w ≡ n / b ^ w / b = ap (λ (k : ℕ). n / k) (pow-suc b w) ∙ sym (div-div-eq-div-mul n (b ^ w) b) in
      rw (g, lt-ltb d b l, e, div-add-mod' (n / b ^ w) b) (read-digits w n)

  pub number_digits : (w n : ℕ) → n < b ^ w → number b (digits b w n) ≡ some n
  number_digits w n h = ap (λ (k : ℕ). number_from b k (digits b w n)) (sym (div-eq_of_lt h)) ∙ read-digits w n

pub record Written (b a : ℕ) (cs : List ℕ) (n : ℕ) : Type 0 where
  pub digits : digits b (length cs) n ≡ cs
  pub above : n / b ^ length cs ≡ a

-- what was read is what would be written
pub digits-read : (b : ℕ) → b ≤ 16 → 0 < b → (a : ℕ) (cs : List ℕ) (n : ℕ) → number_from b a cs ≡ some n → Written b a cs n
unfolding digits number_from
digits-read b few pos a [] n e =
    let q : a ≡ n = cc in
    record { digits = refl; above = ap (λ (k : ℕ). n / k) (pow-zero b) ∙ div-one n ∙ sym q }
digits-read b few pos a (c ∷ cs) n e = go (digits-read b few pos (a * b + digit_of c) cs n) (ltb (digit_of c) b) refl e where
  go : (number_from b (a * b + digit_of c) cs ≡ some n → Written b (a * b + digit_of c) cs n) → (t : Bool) → ltb (digit_of c) b ≡ t
      → pick t (number_from b (a * b + digit_of c) cs) none ≡ some n → Written b a (c ∷ cs) n
  go ih false q r = let z : ◌≡◌ {A = ℕ} 0 1 = cc in absurd (omega arith)
  go ih true q r =
      let l = ltb-true (digit_of c) b q in
      let h = ih r in
      let w = length cs in
      let d : n / b ^ w % b ≡ digit_of c = ap (λ (k : ℕ). k % b) h.above ∙ mul-add-mod_self_right a b (digit_of c) ∙ mod-eq_of_lt l in
      let e' : n / b ^ suc w ≡ n / b ^ w / b = ap (λ (k : ℕ). n / k) (pow-suc b w) ∙ sym (div-div-eq-div-mul n (b ^ w) b) in
      record {
        digits = ap₂ (λ (x : ℕ) (l : List ℕ). glyph x ∷ l) d h.digits ∙ ap (λ (x : ℕ). x ∷ cs) (glyph-digit c (omega arith));
        above =
            e' ∙ ap (λ (k : ℕ). k / b) h.above ∙ mul-add-div_right pos a (digit_of c)
            ∙ ap (λ (k : ℕ). a + k) (div-eq_of_lt l) ∙ add-zero a;
      }

-- a digit more in a number of at most nine
pub grows : (v i base d : ℕ) → v < 16 ^ i → i < 9 → base ≤ 16 → d < base → (v * base + d < 16 ^ suc i) × (16 ^ suc i ≤ 2 ^ 36)
grows v i base d h k f l =
    let p : 16 ^ suc i ≡ 16 ^ i * 16 = pow-suc 16 i in
    let q : v * base ≤ v * 16 = mul-le-mul_left v f in
    (omega arith, pow-le-pow_right (lit< tt) k)

-- ── how many digits ──

-- enough is enough
same_count : (d e n : ℕ) → n ≤ d → n ≤ e → count_in d n ≡ count_in e n
unfolding count_in
same_count zero zero n h k = refl
same_count zero (suc e) n h k = rw (lt-ltb n 10 (omega arith))
same_count (suc d) zero n h k = rw (lt-ltb n 10 (omega arith))
same_count (suc d) (suc e) n h k = ⊎_elim small (large (same_count d e (n / 10))) (decided (ltb n 10)) where
  small : ltb n 10 ≡ true → count_in (suc d) n ≡ count_in (suc e) n
  small q = rw q

  large : (n / 10 ≤ d → n / 10 ≤ e → count_in d (n / 10) ≡ count_in e (n / 10)) → ltb n 10 ≡ false → count_in (suc d) n ≡ count_in (suc e) n
  large ih q = let l = ltb-false n 10 q in rw q (ap suc (ih (omega arith) (omega arith)))

pub count-one : (n : ℕ) → n < 10 → count_of n ≡ 1
unfolding count_of count_in
count-one zero h = refl
count-one (suc n) h = rw (lt-ltb (suc n) 10 h)

pub count-more : (n : ℕ) → 10 ≤ n → count_of n ≡ suc (count_of (n / 10))
unfolding count_of count_in
count-more zero h = absurd (omega arith)
count-more (suc n) h = rw (le-ltb (suc n) 10 h) (ap suc (same_count n (suc n / 10) (suc n / 10) (omega arith) (omega arith)))

pub count-pos : (n : ℕ) → 0 < count_of n
count-pos n = ⊎_elim (λ q. omega (arith, count-one n (ltb-true n 10 q))) (λ q. omega (arith, count-more n (ltb-false n 10 q)))
    (decided (ltb n 10))

-- w digits are enough for a number below 10 ^ w
pub count-le : (w n : ℕ) → n < 10 ^ suc w → count_of n ≤ suc w
count-le zero n h = omega (arith, count-one n h)
count-le (suc w) n h = ⊎_elim small (large (count-le w (n / 10))) (decided (ltb n 10)) where
  small : ltb n 10 ≡ true → count_of n ≤ suc (suc w)
  small q = omega (arith, count-one n (ltb-true n 10 q))

  large : (n / 10 < 10 ^ suc w → count_of (n / 10) ≤ suc w) → ltb n 10 ≡ false → count_of n ≤ suc (suc w)
  large ih q =
      let p : 10 ^ suc (suc w) ≡ 10 ^ suc w * 10 = pow-suc 10 (suc w) in
      omega (arith, count-more n (ltb-false n 10 q), ih (omega arith))

-- and so is its own count of them
fits_in : (d n : ℕ) → n ≤ d → n < 10 ^ count_of n
fits_in zero n h = rw (count-one n (omega arith)) (omega arith)
fits_in (suc d) n h = ⊎_elim small (large (fits_in d (n / 10))) (decided (ltb n 10)) where
  small : ltb n 10 ≡ true → n < 10 ^ count_of n
  small q = let l = ltb-true n 10 q in rw (count-one n l) l

  large : (n / 10 ≤ d → n / 10 < 10 ^ count_of (n / 10)) → ltb n 10 ≡ false → n < 10 ^ count_of n
  large ih q =
      let l = ltb-false n 10 q in
      let i = ih (omega arith) in
      let p : 10 ^ suc (count_of (n / 10)) ≡ 10 ^ count_of (n / 10) * 10 = pow-suc 10 (count_of (n / 10)) in
      rw (count-more n l, p) (omega arith)

pub count_fits : (n : ℕ) → n < 10 ^ count_of n
count_fits n = fits_in n n (omega arith)

-- digits stand for a number below as many powers of the base
pub number_lt : (b : ℕ) → b ≤ 16 → 0 < b → (cs : List ℕ) (n : ℕ) → number b cs ≡ some n → n < b ^ length cs
number_lt b few pos cs n e =
    let w = digits-read b few pos 0 cs n e in
    let l : n < n / b ^ length cs * b ^ length cs + b ^ length cs = lt-div-mul-add (one-le-pow (length cs) b pos) in
    let z : n / b ^ length cs * b ^ length cs ≡ 0 = ap (λ (k : ℕ). k * b ^ length cs) w.above ∙ zero-mul (b ^ length cs) in
    omega arith

-- no digit is a dot
glyph-ge : (d : ℕ) → 48 ≤ glyph d
glyph-ge d = ⊎_elim (λ q. omega (arith, glyph-low d (ltb-true d 10 q))) (λ q. omega (arith, glyph-high d (ltb-false d 10 q)))
    (decided (ltb d 10))

pub before-dot : (b w n : ℕ) (ys : List ℕ) → before 46 (digits b w n ++ (46 ∷ ys)) ≡ w
unfolding before digits
before-dot b zero n ys = refl
before-dot b (suc w) n ys =
    let g = glyph-ge (n / b ^ w % b) in
    rw (ne_eqb (glyph (n / b ^ w % b)) 46 (λ q. omega arith)) (ap suc (before-dot b w n ys))
