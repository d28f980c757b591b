-- What a reader's code goes by: a head of numbers at once, lists of bytes as parts of the payload.
use mathlib.Core.Path.{◌≡◌, refl, sym, ap, ◌∙◌}
use mathlib.Core.Bool.{Bool, true, false}
use mathlib.Core.List.{List, [], ◌∷◌, ◌++◌}
use Prim.Native.Nat.{ℕ, zero, suc, ◌+◌, ◌*◌, ◌/◌, ◌%◌, ◌≤◌, ◌<◌}
use native.Mathlib.Nat.{add-zero}
use native.Mathlib.Omega.{arith}
use borrow.Author.Tests.{lt-ltb, le-ltb, le-leb, ltb-true, ltb-false}
use lib.Dec.{ltb, leb}
use lib.IntN.{pos}
use lib.ListN.{length, take, drop, length-drop, drop_of_length-le}
use lib.Seq.{take_at, drop_at, drop-drop, take-length}
use Rattle.bits.specs.Order.{Octets, digits, value_from, unpack, number, from_bits}
use Rattle.bits.specs.Width.{width_of}
use Rattle.bits.proofs.Digits.{length_digits, value-digits}
use Rattle.bits.proofs.Bytes.{length-unpack, drop-unpack}
use Rattle.bits.proofs.Octets.{octets-drop}
use Rattle.std.specs.Prelude.{IsErrAnd}
use Rattle.std.specs.declared.result.Result.{Result}
use Rattle.std.proofs.lemmas.Result.{err_from_is_err_and}
use Rattle.shape.specs.Answer.{Answer, refused, got, numbered, number_of, answer_of, refuse_if, map_answer}
use Rattle.shape.specs.declared.answer.Refusal.{Refusal}
use Rattle.shape.specs.declared.answer.Refusal.TheVariants.{NoRoom, TooShort, TooLong, NotAllowed, Padding, NoCase}
use Rattle.shape.specs.Cast.{Sign, signed, unsigned, saturated, value_of}
use Rattle.shape.specs.Shape.{Shape, end, num, raw, void, items, list, tail, choice, tag_width, Values, anything, items_of, decode}

-- ── a head: numbers and ignored bits ──

-- a saturated number, unsigned or signed; bits kept as they are; ignored bits
pub data Slot : Type 0 where
  value : ℕ → Slot
  integer : ℕ → Slot
  same : ℕ → Slot
  gap : ℕ → Slot

abbrev pub slots : List Slot → Shape → Shape
slots [] d = d
slots (value w ∷ ss) d = num unsigned saturated w (slots ss d)
slots (integer w ∷ ss) d = num signed saturated w (slots ss d)
slots (same w ∷ ss) d = raw w (slots ss d)
slots (gap w ∷ ss) d = void w (slots ss d)

abbrev pub width : Slot → ℕ
width (value w) = w
width (integer w) = w
width (same w) = w
width (gap w) = w

abbrev pub total : List Slot → ℕ
total [] = 0
total (s ∷ ss) = width s + total ss

-- the numbers from bit `at` on, before v
abbrev pub with_head : (ss : List Slot) (d : Shape) → List Bool → ℕ → Values d → Values (slots ss d)
with_head [] d bs at v = v
with_head (value w ∷ ss) d bs at v = (pos (from_bits w (drop at bs)), with_head ss d bs (at + w) v)
with_head (integer w ∷ ss) d bs at v = (value_of signed w (from_bits w (drop at bs)), with_head ss d bs (at + w) v)
with_head (same w ∷ ss) d bs at v = (from_bits w (drop at bs), with_head ss d bs (at + w) v)
with_head (gap w ∷ ss) d bs at v = with_head ss d bs (at + w) v

pub map-map : {A B C : Type 0} (f : B → C) (g : A → B) (r : Answer A) → map_answer f (map_answer g r) ≡ map_answer (λ (a : A). f (g a)) r
unfolding map_answer
map-map f g (refused n) = refl
map-map f g (got a) = refl

map_same : {A : Type 0} (r : Answer A) → r ≡ map_answer (λ (a : A). a) r
unfolding map_answer
map_same (refused n) = refl
map_same (got a) = refl

-- an answer through a map
pub refused-on : {A B : Type 0} (f : A → B) {x : Answer B} {r : Answer A} {k : ℕ} → x ≡ map_answer f r → r ≡ refused k → x ≡ refused k
unfolding map_answer
refused-on f e h = e ∙ ap (λ r. map_answer f r) h

pub got-on : {A B : Type 0} (f : A → B) {x : Answer B} {r : Answer A} {v : A} → x ≡ map_answer f r → r ≡ got v → x ≡ got (f v)
unfolding map_answer
got-on f e h = e ∙ ap (λ r. map_answer f r) h

-- a number and a value are those of one answer
pub unrefused : {A : Type 0} (r : Answer A) (n : ℕ) → numbered (refused n) ≡ numbered r → r ≡ refused n
unrefused (refused k) n e = ap refused (sym (ap (λ x. x.number) e))
unrefused (got a) n e = let q = ap (λ x. x.value) e in let z : ◌≡◌ {A = ℕ} 0 1 = cc in absurd (omega arith)

pub unread : {A : Type 0} (r : Answer A) (a : A) → numbered (got a) ≡ numbered r → r ≡ got a
unread (refused k) a e = let q = ap (λ x. x.value) e in let z : ◌≡◌ {A = ℕ} 0 1 = cc in absurd (omega arith)
unread (got b) a e = let q = ap (λ x. x.value) e in cc

-- a refusal comes through no map
pub refused-from : {A B : Type 0} (f : A → B) (r : Answer A) (n : ℕ) → map_answer f r ≡ refused n → r ≡ refused n
unfolding map_answer
refused-from f (refused k) n e = let q : ◌≡◌ {A = ℕ} k n = cc in ap refused q
refused-from f (got a) n e = absurd (let z : ◌≡◌ {A = ℕ} 0 1 = cc in omega arith)

-- a refusal that `?` hands on
pub handed-on : {A : Type 0} (r : Result A Refusal) (y : Refusal) → IsErrAnd r (λ (x : Refusal). x ≡ y) → answer_of r ≡ numbered (refused (number_of y))
handed-on r y h = let p = err_from_is_err_and r h in rw (p.1, p.2)

-- a refusal's number is not that of success
pub not_0 : (y : Refusal) → number_of y ≡ 0 → ⊥
not_0 NoRoom e = absurd (omega arith)
not_0 TooShort e = absurd (omega arith)
not_0 TooLong e = absurd (omega arith)
not_0 NotAllowed e = absurd (omega arith)
not_0 Padding e = absurd (omega arith)
not_0 NoCase e = absurd (omega arith)

-- two answers of one payload
pub never : {A : Type 0} {x : Answer A} {k : ℕ} {v : A} → x ≡ refused k → x ≡ got v → ⊥
never {k = k} {v = v} e h = let q : refused k ≡ got v = sym e ∙ h in let z : ◌≡◌ {A = ℕ} 0 1 = cc in omega arith

pub only : {A : Type 0} {x : Answer A} {v w : A} → x ≡ got v → x ≡ got w → v ≡ w
only {v = v} {w = w} e h = let q : got v ≡ got w = sym e ∙ h in cc

module _ (w : ℕ) (d : Shape) (bs : List Bool) (at : ℕ) (h : at + w ≤ length bs) where
  enough : ltb (length (drop at bs)) w ≡ false
  enough = le-ltb (length (drop at bs)) w (rw length-drop (omega arith))

  num-at : (s : Sign) → decode (num s saturated w d) (drop at bs) ≡ map_answer (λ (v : Values d). (value_of s w (from_bits w (drop at bs)), v)) (decode d (drop (at + w) bs))
  unfolding decode refuse_if
  num-at s = rw (enough, drop-drop w at bs)

  raw_at : decode (raw w d) (drop at bs) ≡ map_answer (λ (v : Values d). (from_bits w (drop at bs), v)) (decode d (drop (at + w) bs))
  unfolding decode refuse_if
  raw_at = rw (enough, drop-drop w at bs)

  void-at : decode (void w d) (drop at bs) ≡ decode d (drop (at + w) bs)
  unfolding decode refuse_if
  void-at = rw (enough, drop-drop w at bs)

pub head_read : (ss : List Slot) (d : Shape) (bs : List Bool) (at : ℕ) → at + total ss ≤ length bs
    → decode (slots ss d) (drop at bs) ≡ map_answer (with_head ss d bs at) (decode d (drop (at + total ss) bs))
head_read [] d bs at h = rw add-zero (map_same (decode d (drop at bs)))
head_read (value w ∷ ss) d bs at h =
    let e : at + w + total ss ≡ at + (w + total ss) = omega arith in
    num-at w (slots ss d) bs at (omega arith) unsigned
    ∙ ap (λ (r : Answer (Values (slots ss d))). map_answer (λ (v : Values (slots ss d)). (pos (from_bits w (drop at bs)), v)) r) (head_read ss d bs (at + w) (omega arith))
    ∙ map-map (λ (v : Values (slots ss d)). (pos (from_bits w (drop at bs)), v)) (with_head ss d bs (at + w)) (decode d (drop (at + w + total ss) bs))
    ∙ ap (λ (n : ℕ). map_answer (with_head (value w ∷ ss) d bs at) (decode d (drop n bs))) e
head_read (integer w ∷ ss) d bs at h =
    let e : at + w + total ss ≡ at + (w + total ss) = omega arith in
    let z = value_of signed w (from_bits w (drop at bs)) in
    num-at w (slots ss d) bs at (omega arith) signed
    ∙ ap (λ (r : Answer (Values (slots ss d))). map_answer (λ (v : Values (slots ss d)). (z, v)) r) (head_read ss d bs (at + w) (omega arith))
    ∙ map-map (λ (v : Values (slots ss d)). (z, v)) (with_head ss d bs (at + w)) (decode d (drop (at + w + total ss) bs))
    ∙ ap (λ (n : ℕ). map_answer (with_head (integer w ∷ ss) d bs at) (decode d (drop n bs))) e
head_read (same w ∷ ss) d bs at h =
    let e : at + w + total ss ≡ at + (w + total ss) = omega arith in
    raw_at w (slots ss d) bs at (omega arith)
    ∙ ap (λ (r : Answer (Values (slots ss d))). map_answer (λ (v : Values (slots ss d)). (from_bits w (drop at bs), v)) r) (head_read ss d bs (at + w) (omega arith))
    ∙ map-map (λ (v : Values (slots ss d)). (from_bits w (drop at bs), v)) (with_head ss d bs (at + w)) (decode d (drop (at + w + total ss) bs))
    ∙ ap (λ (n : ℕ). map_answer (with_head (same w ∷ ss) d bs at) (decode d (drop n bs))) e
head_read (gap w ∷ ss) d bs at h =
    let e : at + w + total ss ≡ at + (w + total ss) = omega arith in
    void-at w (slots ss d) bs at (omega arith) ∙ head_read ss d bs (at + w) (omega arith)
    ∙ ap (λ (n : ℕ). map_answer (with_head (gap w ∷ ss) d bs at) (decode d (drop n bs))) e

-- a head of n bytes
pub head_bytes : (ss : List Slot) (d : Shape) (n : ℕ) → total ss ≡ n * 8 → (s : List ℕ) → n ≤ length s
    → decode (slots ss d) (unpack s) ≡ map_answer (with_head ss d (unpack s) 0) (decode d (unpack (drop n s)))
head_bytes ss d n e s h =
    let z : 0 + total ss ≡ n * 8 = omega arith in
    head_read ss d (unpack s) 0 (omega (arith, length-unpack s))
    ∙ ap (λ (k : ℕ). map_answer (with_head ss d (unpack s) 0) (decode d (drop k (unpack s)))) z
    ∙ ap (λ (b : List Bool). map_answer (with_head ss d (unpack s) 0) (decode d b)) (drop-unpack n s)

-- a payload that ends in the head
module _ (w : ℕ) (d : Shape) (bs : List Bool) (k : w ≤ length bs → decode d (drop w bs) ≡ refused 15) where
  num-short : (s : Sign) (b : Bool) → ltb (length bs) w ≡ b → decode (num s saturated w d) bs ≡ refused 15
  unfolding decode refuse_if map_answer
  num-short s true e = rw e
  num-short s false e = rw (e, k (ltb-false (length bs) w e))

  raw-short : (b : Bool) → ltb (length bs) w ≡ b → decode (raw w d) bs ≡ refused 15
  unfolding decode refuse_if map_answer
  raw-short true e = rw e
  raw-short false e = rw (e, k (ltb-false (length bs) w e))

  void-short : (b : Bool) → ltb (length bs) w ≡ b → decode (void w d) bs ≡ refused 15
  unfolding decode refuse_if
  void-short true e = rw e
  void-short false e = rw (e, k (ltb-false (length bs) w e))

pub head-short : (ss : List Slot) (d : Shape) (bs : List Bool) → length bs < total ss → decode (slots ss d) bs ≡ refused 15
head-short [] d bs h = absurd (omega arith)
head-short (value w ∷ ss) d bs h =
    num-short w (slots ss d) bs (λ l. head-short ss d (drop w bs) (rw length-drop (omega arith))) unsigned (ltb (length bs) w) refl
head-short (integer w ∷ ss) d bs h =
    num-short w (slots ss d) bs (λ l. head-short ss d (drop w bs) (rw length-drop (omega arith))) signed (ltb (length bs) w) refl
head-short (same w ∷ ss) d bs h = raw-short w (slots ss d) bs (λ l. head-short ss d (drop w bs) (rw length-drop (omega arith))) (ltb (length bs) w) refl
head-short (gap w ∷ ss) d bs h = void-short w (slots ss d) bs (λ l. head-short ss d (drop w bs) (rw length-drop (omega arith))) (ltb (length bs) w) refl

-- ── the end ──

pub end_none : (bs : List Bool) → length bs ≡ 0 → decode end bs ≡ got tt
unfolding decode refuse_if
end_none [] h = refl
end_none (b ∷ bs) h = absurd (omega arith)

pub end-left : (bs : List Bool) → 8 ≤ length bs → decode end bs ≡ refused 16
unfolding decode refuse_if
end-left bs h = rw (le-leb 8 (length bs) h)

-- ── items of a byte ──

byte : (b : ℕ) (rest : List Bool) → b < 256 → from_bits 8 (digits 8 b ++ rest) ≡ b
unfolding from_bits number value_from
byte b rest h = rw (take_at (digits 8 b) rest 8 (length_digits 8 b), value-digits 8 b) (omega arith)

pub byte-items : (n : ℕ) (s : List ℕ) → Octets s → n ≤ length s → items_of 8 n (unpack s) ≡ take n s
unfolding items_of unpack
byte-items zero s o h = refl
byte-items (suc n) [] o h = absurd (omega arith)
byte-items (suc n) (b ∷ s) o h = rw (byte b (unpack s) o.0, drop_at (digits 8 b) (unpack s) 8 (length_digits 8 b), byte-items n s o.1 (omega arith))

-- a list of bytes at the end
module _ (m : ℕ) (ok : List ℕ → Bool) (s : List ℕ) (os : Octets s) where
  length_rest : length (unpack s) / 8 ≡ length s
  length_rest = omega (arith, length-unpack s)

  none_left : length (unpack s) % 8 ≡ 0
  none_left = omega (arith, length-unpack s)

  nothing : drop (length s * 8) (unpack s) ≡ []
  nothing = let h : length (unpack s) ≤ length s * 8 = omega (arith, length-unpack s) in drop_of_length-le (unpack s) h

  whole : items_of 8 (length s) (unpack s) ≡ s
  whole = byte-items (length s) s os (omega arith) ∙ take-length s

  pub tail-long : m < length s → decode (tail 8 m ok) (unpack s) ≡ refused 16
  unfolding decode refuse_if
  tail-long h = rw (length_rest, lt-ltb m (length s) h)

  pub tail-not : length s ≤ m → ok s ≡ false → decode (tail 8 m ok) (unpack s) ≡ refused 17
  unfolding decode refuse_if
  tail-not h k = rw (length_rest, none_left, le-ltb m (length s) h, nothing, whole, k)

  pub tail-got : length s ≤ m → ok s ≡ true → decode (tail 8 m ok) (unpack s) ≡ got s
  unfolding decode refuse_if
  tail-got h k = rw (length_rest, none_left, le-ltb m (length s) h, nothing, whole, k)

-- a head of n bytes, and a list of bytes that may hold anything
module _ (ss : List Slot) (n : ℕ) (e : total ss ≡ n * 8) (m : ℕ) (s : List ℕ) (o : Octets s) where
  abbrev rest : Shape
  rest = tail 8 m anything

  pub ht-short : length s < n → decode (slots ss rest) (unpack s) ≡ refused 15
  ht-short h = head-short ss rest (unpack s) (omega (arith, length-unpack s))

  pub ht-long : n ≤ length s → m < length (drop n s) → decode (slots ss rest) (unpack s) ≡ refused 16
  ht-long h l = refused-on (with_head ss rest (unpack s) 0) (head_bytes ss rest n e s h) (tail-long m anything (drop n s) (octets-drop n s o) l)

  pub ht-held : n ≤ length s → length (drop n s) ≤ m → decode (slots ss rest) (unpack s) ≡ got (with_head ss rest (unpack s) 0 (drop n s))
  ht-held h l = got-on (with_head ss rest (unpack s) 0) (head_bytes ss rest n e s h) (tail-got m anything (drop n s) (octets-drop n s o) l refl)

  -- nothing else is read
  pub ht-only : (v : Values (slots ss rest)) → decode (slots ss rest) (unpack s) ≡ got v → v ≡ with_head ss rest (unpack s) 0 (drop n s)
  ht-only v g = go (ltb (length s) n) (ltb m (length (drop n s))) refl refl where
    go : (a b : Bool) → ltb (length s) n ≡ a → ltb m (length (drop n s)) ≡ b → v ≡ with_head ss rest (unpack s) 0 (drop n s)
    go true b ea eb = absurd (never (ht-short (ltb-true (length s) n ea)) g)
    go false true ea eb = absurd (never (ht-long (ltb-false (length s) n ea) (ltb-true m (length (drop n s)) eb)) g)
    go false false ea eb = only g (ht-held (ltb-false (length s) n ea) (ltb-false m (length (drop n s)) eb))

-- k bytes
module _ (k : ℕ) (d : Shape) (s : List ℕ) (os : Octets s) where
  pub items-short : length s < k → decode (items 8 k d) (unpack s) ≡ refused 15
  unfolding decode refuse_if
  items-short h = rw (lt-ltb (length (unpack s)) (k * 8) (omega (arith, length-unpack s)))

  pub items-read : k ≤ length s → decode (items 8 k d) (unpack s) ≡ map_answer (λ (v : Values d). (take k s, v)) (decode d (unpack (drop k s)))
  unfolding decode refuse_if
  items-read h = rw (le-ltb (length (unpack s)) (k * 8) (omega (arith, length-unpack s)), byte-items k s os h, drop-unpack k s)

-- a length field, and bytes after it
module _ (m : ℕ) (d : Shape) (bs : List Bool) where
  pub list-none : length bs < width_of m → decode (list 8 m d) bs ≡ refused 15
  unfolding decode refuse_if
  list-none h = rw (lt-ltb (length bs) (width_of m) h)

  -- s: the bytes after it, n: the length that is read
  module _ (h : width_of m ≤ length bs) (s : List ℕ) (os : Octets s) (e : drop (width_of m) bs ≡ unpack s) (n : ℕ) (en : n ≡ from_bits (width_of m) bs) where
    there : ltb (length bs) (width_of m) ≡ false
    there = le-ltb (length bs) (width_of m) h

    pub list-short : length s < n → decode (list 8 m d) bs ≡ refused 15
    unfolding decode refuse_if
    list-short l = rw (there, e, ← en, lt-ltb (length (unpack s)) (n * 8) (omega (arith, length-unpack s)))

    pub list-long : n ≤ length s → m < n → decode (list 8 m d) bs ≡ refused 16
    unfolding decode refuse_if
    list-long l k = rw (there, e, ← en, le-ltb (length (unpack s)) (n * 8) (omega (arith, length-unpack s)), lt-ltb m n k)

    pub list_read : n ≤ length s → n ≤ m → decode (list 8 m d) bs ≡ map_answer (λ (v : Values d). (take n s, v)) (decode d (unpack (drop n s)))
    unfolding decode refuse_if
    list_read l k = rw (there, e, ← en, le-ltb (length (unpack s)) (n * 8) (omega (arith, length-unpack s)), le-ltb m n k, byte-items n s os l, drop-unpack n s)

-- ── a tag ──

-- a tag at bit `at`
module _ (n : ℕ) (f : ℕ → Shape) (bs : List Bool) (at : ℕ) where
  pub choice-at : at + tag_width n ≤ length bs
      → decode (choice n f) (drop at bs) ≡ refuse_if (leb n (from_bits (tag_width n) (drop at bs))) 27
      (map_answer (λ (v : Values (f (from_bits (tag_width n) (drop at bs)))). (from_bits (tag_width n) (drop at bs), v))
      (decode (f (from_bits (tag_width n) (drop at bs))) (drop (at + tag_width n) bs)))
  unfolding decode refuse_if
  choice-at h = rw (enough (tag_width n) end bs at h, drop-drop (tag_width n) at bs)

  pub choice-short : length (drop at bs) < tag_width n → decode (choice n f) (drop at bs) ≡ refused 15
  unfolding decode refuse_if
  choice-short h = rw (lt-ltb (length (drop at bs)) (tag_width n) h)
