-- How long a message can be, by its description: so a writer's answer fits a result word.
use mathlib.Core.Path.{◌≡◌, refl, ap, ◌∙◌}
use mathlib.Core.Bool.{Bool, true, false, ◌&&◌}
use mathlib.Core.List.{List, ◌++◌}
use Prim.Native.Nat.{ℕ, zero, suc, ◌+◌, ◌*◌, ◌-◌, ◌^◌, ◌≤◌, ◌<◌}
use native.Mathlib.Nat.{mul-le-mul_right}
use native.Mathlib.Omega.{arith}
use borrow.Author.Tests.{ltb-true, leb-true, eqb-true, eqb-false}
use lib.Dec.{ltb, leb, eqb}
use lib.ListN.{length, length-append}
use Rattle.bits.specs.Order.{bytes_for, padding, to_bits}
use Rattle.bits.specs.Width.{width_of}
use Rattle.bits.proofs.Bytes.{length-bytes}
use Rattle.bits.proofs.Numbers.{length-to_bits}
use Rattle.shape.specs.Answer.{Numbered, refuse_if, wrote}
use Rattle.shape.specs.Cast.{cast_bits}
use Rattle.shape.specs.Shape.{Shape, end, num, raw, void, items, list, tail, choice, tag_width, Values, item_bits, all_below, encode, tags, fits, message, encoded, written}
use Rattle.shape.proofs.Fields.{and_left, and_right, length-item_bits}
use Rattle.row.specs.Row.{word_of}

abbrev below : ℕ → (ℕ → Bool) → Bool
below zero f = true
below (suc n) f = f n && below n f

-- at most b bits
abbrev pub short : Shape → ℕ → Bool
short end b = true
short (num s c w d) b = leb w b && short d (b - w)
short (raw w d) b = leb w b && short d (b - w)
short (void w d) b = leb w b && short d (b - w)
short (items w k d) b = leb (k * w) b && short d (b - k * w)
short (list w m d) b = leb (width_of m + m * w) b && short d (b - (width_of m + m * w))
short (tail w m ok) b = leb (m * w) b
short (choice n f) b = leb (tag_width n) b && below n (λ t. short (f t) (b - tag_width n))

case-of : (n : ℕ) (f : ℕ → Bool) → below n f ≡ true → (t : ℕ) → t < n → f t ≡ true
case-of zero f e t h = absurd (omega arith)
case-of (suc n) f e t h = by-case (eqb t n) refl (λ l. case-of n f (and_right (f n) (below n f) e) t l) where
  by-case : (b : Bool) → eqb t n ≡ b → (t < n → f t ≡ true) → f t ≡ true
  by-case true q r = ap f (eqb-true t n q) ∙ and_left (f n) (below n f) e
  by-case false q r = r (omega (arith, eqb-false t n q))

-- a field of at most w bits, and what follows it
field : (w b : ℕ) (x y : List Bool) (p : Bool) → leb w b && p ≡ true → length x ≤ w → length y ≤ b - w → length (x ++ y) ≤ b
field w b x y p e h k = omega (arith, leb-true w b (and_left (leb w b) p e), length-append x y)

-- at most m items
listed : (w m : ℕ) (xs : List ℕ) → length xs ≤ m → length (item_bits w xs) ≤ m * w
listed w m xs h = rw (length-item_bits w xs) (mul-le-mul_right w h)

bits : (d : Shape) (b : ℕ) → short d b ≡ true → (v : Values d) → tags d v ≡ true → fits d v ≡ true → length (encode d v) ≤ b
unfolding encode fits
bits end b e v t f = omega arith
bits (num s c w d) b e v t f =
    field w b (to_bits w (cast_bits s c w v.0)) (encode d v.1) (short d (b - w)) e (rw length-to_bits (omega arith))
    (bits d (b - w) (and_right (leb w b) (short d (b - w)) e) v.1 t f)
bits (raw w d) b e v t f =
    field w b (to_bits w v.0) (encode d v.1) (short d (b - w)) e (rw length-to_bits (omega arith))
    (bits d (b - w) (and_right (leb w b) (short d (b - w)) e) v.1 t (and_right (ltb v.0 (2 ^ w)) (fits d v.1) f))
bits (void w d) b e v t f =
    field w b (to_bits w 0) (encode d v) (short d (b - w)) e (rw length-to_bits (omega arith)) (bits d (b - w) (and_right (leb w b) (short d (b - w)) e) v t f)
bits (items w k d) b e v t f =
    let g = and_right (eqb (length v.0) k) (all_below (2 ^ w) v.0 && fits d v.1) f in
    let l : length v.0 ≤ k = omega (arith, eqb-true (length v.0) k (and_left (eqb (length v.0) k) (all_below (2 ^ w) v.0 && fits d v.1) f)) in
    field (k * w) b (item_bits w v.0) (encode d v.1) (short d (b - k * w)) e (listed w k v.0 l)
    (bits d (b - k * w) (and_right (leb (k * w) b) (short d (b - k * w)) e) v.1 t (and_right (all_below (2 ^ w) v.0) (fits d v.1) g))
bits (list w m d) b e v t f =
    let g = and_right (leb (length v.0) m) (all_below (2 ^ w) v.0 && fits d v.1) f in
    let l : length v.0 ≤ m = leb-true (length v.0) m (and_left (leb (length v.0) m) (all_below (2 ^ w) v.0 && fits d v.1) f) in
    let n = width_of m + m * w in
    let r = bits d (b - n) (and_right (leb n b) (short d (b - n)) e) v.1 t (and_right (all_below (2 ^ w) v.0) (fits d v.1) g) in
    omega
    (arith, leb-true n b (and_left (leb n b) (short d (b - n)) e), length-append (to_bits (width_of m) (length v.0)) (item_bits w v.0 ++ encode d v.1), length-append (item_bits w v.0) (encode d v.1), length-to_bits (width_of m) (length v.0), listed w m v.0 l)
bits (tail w m ok) b e v t f =
    omega (arith, leb-true (m * w) b e, listed w m v (leb-true (length v) m (and_left (leb (length v) m) (all_below (2 ^ w) v && ok v) f)))
bits (choice n g) b e v t f =
    let w = tag_width n in
    let h = ltb-true v.0 n (and_left (ltb v.0 n) (tags (g v.0) v.1) t) in
    let cases = below n (λ (k : ℕ). short (g k) (b - w)) in
    let s = case-of n (λ (k : ℕ). short (g k) (b - w)) (and_right (leb w b) cases e) v.0 h in
    field w b (to_bits w v.0) (encode (g v.0) v.1) cases e (rw length-to_bits (omega arith))
    (bits (g v.0) (b - w) s v.1 (and_right (ltb v.0 n) (tags (g v.0) v.1) t) f)

-- a message of at most 65,536 bits
wrote-fits : (d : Shape) → short d 65536 ≡ true → (v : Values d) (m : List ℕ) → word_of (wrote (encoded d v (length m)) m).0 < 2 ^ 64
unfolding encoded refuse_if word_of
wrote-fits d s v m = by-case (tags d v) (fits d v) (ltb (length m) (length (message d v))) refl refl refl where
  by-case : (t f r : Bool) → tags d v ≡ t → fits d v ≡ f → ltb (length m) (length (message d v)) ≡ r → word_of (wrote (encoded d v (length m)) m).0 < 2 ^ 64
  by-case false f r et ef er = rw et (omega arith)
  by-case true false r et ef er = rw (et, ef) (omega arith)
  by-case true true true et ef er = rw (et, ef, er) (omega arith)
  by-case true true false et ef er =
      rw (et, ef, er) (omega (arith, bits d 65536 s v et ef, length-bytes (bytes_for (length (encode d v))) (encode d v ++ padding (encode d v))))

pub word_fits : (d : Shape) → short d 65536 ≡ true → (v : Values d) (m : List ℕ) (w : Numbered ℕ) (m' : List ℕ) → (w, m') ≡ written d v m → word_of w < 2 ^ 64
word_fits d s v m w m' e = omega (arith, ap (λ (p : Numbered ℕ × List ℕ). word_of p.0) e, wrote-fits d s v m)

-- with one more refusal
pub refused-fits : (d : Shape) → short d 65536 ≡ true → (v : Values d) (m : List ℕ) (b : Bool) (w : Numbered ℕ) (m' : List ℕ)
    → (w, m') ≡ wrote (refuse_if b 17 (encoded d v (length m))) m → word_of w < 2 ^ 64
unfolding refuse_if word_of
refused-fits d s v m true w m' e = omega (arith, ap (λ (p : Numbered ℕ × List ℕ). word_of p.0) e)
refused-fits d s v m false w m' e = word_fits d s v m w m' e
