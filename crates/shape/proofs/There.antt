-- What was written is read: over every description.
use mathlib.Core.Path.{◌≡◌, refl, sym, ap, ◌∙◌}
use mathlib.Core.Bool.{Bool, true, false, ◌&&◌}
use mathlib.Core.List.{List, ◌++◌, append_assoc}
use Prim.Native.Nat.{ℕ, ◌+◌, ◌*◌, ◌-◌, ◌/◌, ◌%◌, ◌^◌, ◌≤◌, ◌<◌}
use native.Mathlib.Omega.{arith}
use borrow.Author.Tests.{le-ltb, lt-leb, ltb-true, leb-true, eqb-true}
use lib.Dec.{ltb, leb, eqb}
use lib.Arith.{digits_div, digits_mod}
use lib.IntN.{ℤ}
use lib.ListN.{length, drop, length-append}
use lib.Seq.{drop_at}
use Rattle.bits.specs.Order.{to_bits, from_bits}
use Rattle.bits.proofs.Numbers.{length-to_bits, from_bits-to_bits}
use Rattle.bits.specs.Width.{width_of}
use Rattle.bits.proofs.Widths.{width-law}
use Rattle.shape.specs.Answer.{Answer, got, refuse_if, map_answer}
use Rattle.shape.specs.Cast.{Sign, Cast, unsigned, signed, value_of, holds, cast_bits, clip}
use Rattle.shape.specs.Shape.{Shape, end, num, raw, void, items, list, tail, choice, tag_width, Values, item_bits, all_zero, all_below, encode, decode, tags, fits, clipped, within}
use Rattle.shape.specs.Laws.{Sound}
use Rattle.shape.proofs.CastFacts.{cast-lt, cast-keeps, keeps-unsigned}
use Rattle.shape.proofs.Fields.{and_left, and_right, length-item_bits, items-there}

-- a number in front
front : (w n : ℕ) (r : List Bool) → ltb (length (to_bits w n ++ r)) w ≡ false
front w n r = le-ltb (length (to_bits w n ++ r)) w (omega (arith, length-append (to_bits w n) r, length-to_bits w n))

behind : (w n : ℕ) (r : List Bool) → drop w (to_bits w n ++ r) ≡ r
behind w n r = drop_at (to_bits w n) r w (length-to_bits w n)

-- items in front
items-front : (w : ℕ) (xs : List ℕ) (r : List Bool) → ltb (length (item_bits w xs ++ r)) (length xs * w) ≡ false
items-front w xs r = le-ltb (length (item_bits w xs ++ r)) (length xs * w) (omega (arith, length-append (item_bits w xs) r, length-item_bits w xs))

items-behind : (w : ℕ) (xs : List ℕ) (r : List Bool) → drop (length xs * w) (item_bits w xs ++ r) ≡ r
items-behind w xs r = drop_at (item_bits w xs) r (length xs * w) (length-item_bits w xs)

num-there : (s : Sign) (c : Cast) (w : ℕ) (d : Shape) (n : ℕ) (r : List Bool) → n < 2 ^ w
    → decode (num s c w d) (to_bits w n ++ r) ≡ map_answer (λ (v : Values d). (value_of s w n, v)) (decode d r)
unfolding decode refuse_if
num-there s c w d n r h = rw (front w n r, from_bits-to_bits w n r h, behind w n r)

raw-there : (w : ℕ) (d : Shape) (n : ℕ) (r : List Bool) → n < 2 ^ w → decode (raw w d) (to_bits w n ++ r) ≡ map_answer (λ (v : Values d). (n, v)) (decode d r)
unfolding decode refuse_if
raw-there w d n r h = rw (front w n r, from_bits-to_bits w n r h, behind w n r)

-- a tag fits its bits
pub tag_fits : (n t : ℕ) → t < n → t < 2 ^ tag_width n
tag_fits n t l = omega (arith, (width-law (n - 1)).holds)

-- what follows a number
sound-rest : (s : Sign) (c : Cast) (w : ℕ) (d : Shape) → Sound (num s c w d) → Sound d
sound-rest unsigned c w d h = h
sound-rest signed c w d h = h.1

items-there' : (w : ℕ) (d : Shape) (xs : List ℕ) (r : List Bool) → all_below (2 ^ w) xs ≡ true
    → decode (items w (length xs) d) (item_bits w xs ++ r) ≡ map_answer (λ (v : Values d). (xs, v)) (decode d r)
unfolding decode refuse_if
items-there' w d xs r h = rw (items-front w xs r, items-there w xs r h, items-behind w xs r)

list-there : (w m : ℕ) (d : Shape) (xs : List ℕ) (r : List Bool) → length xs ≤ m → all_below (2 ^ w) xs ≡ true
    → decode (list w m d) (to_bits (width_of m) (length xs) ++ (item_bits w xs ++ r)) ≡ map_answer (λ (v : Values d). (xs, v)) (decode d r)
unfolding decode refuse_if
list-there w m d xs r l h =
    let n : from_bits (width_of m) (to_bits (width_of m) (length xs) ++ (item_bits w xs ++ r)) ≡ length xs = from_bits-to_bits (width_of m) (length xs) (item_bits w xs ++ r)
    (omega (arith, (width-law m).holds)) in
    rw (front (width_of m) (length xs) (item_bits w xs ++ r), n, behind (width_of m) (length xs) (item_bits w xs ++ r), items-front w xs r, le-ltb m (length xs) l, items-there w xs r h, items-behind w xs r)

tail-there : (w m : ℕ) (ok : List ℕ → Bool) (xs : List ℕ) (pad : List Bool) → 8 ≤ w → length xs ≤ m → all_below (2 ^ w) xs ≡ true → ok xs ≡ true → length pad < 8
    → all_zero pad ≡ true
    → decode (tail w m ok) (item_bits w xs ++ pad) ≡ got xs
unfolding decode refuse_if
tail-there w m ok xs pad hw l h k short z =
    let n : length (item_bits w xs ++ pad) ≡ length xs * w + length pad = length-append (item_bits w xs) pad ∙ ap (λ (j : ℕ). j + length pad) (length-item_bits w xs) in
    let q : length (item_bits w xs ++ pad) / w ≡ length xs = ap (λ (j : ℕ). j / w) n ∙ digits_div (length xs) (omega arith) in
    let p : length (item_bits w xs ++ pad) % w ≡ length pad = ap (λ (j : ℕ). j % w) n ∙ digits_mod (length xs) (omega arith) in
    rw (q, p, le-ltb m (length xs) l, lt-leb 8 (length pad) short, items-behind w xs pad, z, items-there w xs pad h, k)

void-there : (w : ℕ) (d : Shape) (r : List Bool) → decode (void w d) (to_bits w 0 ++ r) ≡ decode d r
unfolding decode refuse_if
void-there w d r = rw (front w 0 r, behind w 0 r)

choice-there : (n : ℕ) (f : ℕ → Shape) (t : ℕ) (r : List Bool) → t < n
    → decode (choice n f) (to_bits (tag_width n) t ++ r) ≡ map_answer (λ (v : Values (f t)). (t, v)) (decode (f t) r)
unfolding decode refuse_if
choice-there n f t r l =
    let w = tag_width n in
    rw (front w t r, from_bits-to_bits w t r (tag_fits n t l), lt-leb n t l, behind w t r)

module _ (pad : List Bool) (short : length pad < 8) (z : all_zero pad ≡ true) where
  pub there : (d : Shape) → Sound d → (v : Values d) → tags d v ≡ true → fits d v ≡ true → decode d (encode d v ++ pad) ≡ got (clipped d v)
  unfolding encode fits map_answer decode refuse_if clipped
  there end s v t h = rw (lt-leb 8 (length pad) short, z)
  there (num sg c w d) s v t h =
      let n = cast_bits sg c w v.0 in
      ap (λ (b : List Bool). decode (num sg c w d) b) (append_assoc (to_bits w n) (encode d v.1) pad)
      ∙ num-there sg c w d n (encode d v.1 ++ pad) (cast-lt sg c w v.0)
      ∙ ap (λ (r : Answer (Values d)). map_answer (λ (u : Values d). (value_of sg w n, u)) r) (there d (sound-rest sg c w d s) v.1 t h)
  there (raw w d) s v t h =
      let l = and_left (ltb v.0 (2 ^ w)) (fits d v.1) h in
      ap (λ (b : List Bool). decode (raw w d) b) (append_assoc (to_bits w v.0) (encode d v.1) pad)
      ∙ raw-there w d v.0 (encode d v.1 ++ pad) (ltb-true v.0 (2 ^ w) l)
      ∙ ap (λ (r : Answer (Values d)). map_answer (λ (u : Values d). (v.0, u)) r) (there d s v.1 t (and_right (ltb v.0 (2 ^ w)) (fits d v.1) h))
  there (void w d) s v t h =
      ap (λ (b : List Bool). decode (void w d) b) (append_assoc (to_bits w 0) (encode d v) pad) ∙ void-there w d (encode d v ++ pad) ∙ there d s v t h
  there (items w k d) s v t h =
      let c = and_right (eqb (length v.0) k) (all_below (2 ^ w) v.0 && fits d v.1) h in
      let e : length v.0 ≡ k = eqb-true (length v.0) k (and_left (eqb (length v.0) k) (all_below (2 ^ w) v.0 && fits d v.1) h) in
      ap (λ (b : List Bool). decode (items w k d) b) (append_assoc (item_bits w v.0) (encode d v.1) pad)
      ∙ ap (λ (j : ℕ). decode (items w j d) (item_bits w v.0 ++ (encode d v.1 ++ pad))) (sym e)
      ∙ items-there' w d v.0 (encode d v.1 ++ pad) (and_left (all_below (2 ^ w) v.0) (fits d v.1) c)
      ∙ ap (λ (r : Answer (Values d)). map_answer (λ (u : Values d). (v.0, u)) r) (there d s v.1 t (and_right (all_below (2 ^ w) v.0) (fits d v.1) c))
  there (list w m d) s v t h =
      let c = and_right (leb (length v.0) m) (all_below (2 ^ w) v.0 && fits d v.1) h in
      let l : length v.0 ≤ m = leb-true (length v.0) m (and_left (leb (length v.0) m) (all_below (2 ^ w) v.0 && fits d v.1) h) in
      let e : encode (list w m d) v ++ pad ≡ to_bits (width_of m) (length v.0) ++ (item_bits w v.0 ++ (encode d v.1 ++ pad)) = simp append_assoc in
      ap (λ (b : List Bool). decode (list w m d) b) e
      ∙ list-there w m d v.0 (encode d v.1 ++ pad) l (and_left (all_below (2 ^ w) v.0) (fits d v.1) c)
      ∙ ap (λ (r : Answer (Values d)). map_answer (λ (u : Values d). (v.0, u)) r) (there d s v.1 t (and_right (all_below (2 ^ w) v.0) (fits d v.1) c))
  there (tail w m ok) s v t h =
      let c = and_right (leb (length v) m) (all_below (2 ^ w) v && ok v) h in
      let l : length v ≤ m = leb-true (length v) m (and_left (leb (length v) m) (all_below (2 ^ w) v && ok v) h) in
      tail-there w m ok v pad s l (and_left (all_below (2 ^ w) v) (ok v) c) (and_right (all_below (2 ^ w) v) (ok v) c) short z
  there (choice n f) s v t h =
      let k = v.0 in
      let l : k < n = ltb-true k n (and_left (ltb k n) (tags (f k) v.1) t) in
      ap (λ (b : List Bool). decode (choice n f) b) (append_assoc (to_bits (tag_width n) k) (encode (f k) v.1) pad)
      ∙ choice-there n f k (encode (f k) v.1 ++ pad) l
      ∙ ap (λ (r : Answer (Values (f k))). map_answer (λ (u : Values (f k)). (k, u)) r)
      (there (f k) (s k l) v.1 (and_right (ltb k n) (tags (f k) v.1) t) h)

-- ── numbers that their fields hold ──

num-kept : (s : Sign) (c : Cast) (w : ℕ) (d : Shape) → Sound (num s c w d) → (z : ℤ) → holds s w z ≡ true → clip s c w z ≡ z
num-kept unsigned c w d h z e = keeps-unsigned c w z e
num-kept signed c w d h z e = cast-keeps signed c w z h.0 e

pair : {A B : Type 0} {a b : A} {x y : B} → a ≡ b → x ≡ y → ◌≡◌ {A = A × B} (a, x) (b, y)
pair {a = a} {y = y} e f = ap (λ k. (a, k)) f ∙ ap (λ k. (k, y)) e

pub kept : (d : Shape) → Sound d → (v : Values d) → within d v ≡ true → clipped d v ≡ v
unfolding clipped within
kept end s v h = refl
kept (num sg c w d) s v h =
    pair (num-kept sg c w d s v.0 (and_left (holds sg w v.0) (within d v.1) h))
    (kept d (sound-rest sg c w d s) v.1 (and_right (holds sg w v.0) (within d v.1) h))
kept (raw w d) s v h = pair refl (kept d s v.1 h)
kept (void w d) s v h = kept d s v h
kept (items w k d) s v h = pair refl (kept d s v.1 h)
kept (list w m d) s v h = pair refl (kept d s v.1 h)
kept (tail w m ok) s v h = refl
kept (choice n f) s v h =
    let k = v.0 in
    let l : k < n = ltb-true k n (and_left (ltb k n) (within (f k) v.1) h) in
    ap (λ (u : Values (f k)). (k, u)) (kept (f k) (s k l) v.1 (and_right (ltb k n) (within (f k) v.1) h))
