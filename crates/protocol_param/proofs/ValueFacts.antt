-- One value in a payload: what is read at a tag is what stands there, over every number of cases and whatever follows.
use mathlib.Core.Path.{◌≡◌, refl, sym, ap, ◌∙◌}
use mathlib.Core.Bool.{Bool, true, false}
use mathlib.Core.List.{List, [], ◌∷◌}
use Prim.Native.Nat.{ℕ, zero, suc, ◌+◌, ◌*◌, ◌-◌, ◌/◌, ◌%◌, ◌^◌, ◌≤◌, ◌<◌}
use native.Mathlib.Omega.{arith}
use borrow.Author.Tests.{lt-ltb, le-ltb, lt-leb, le-leb, ltb-true, ltb-false, leb-false}
use lib.Dec.{ltb, leb, lit<, lit≤}
use lib.ListN.{length, take, drop, length-drop}
use lib.Seq.{drop-drop, take_all, length-take-le}
use Rattle.shape.proofs.SignedFacts.{is}
use Rattle.bits.specs.Order.{Octets, value_from, unpack, number, from_bits}
use Rattle.bits.specs.Order as order
use Rattle.bits.specs.Part.{span}
use Rattle.bits.specs.Width.{width_in, width_of}
use Rattle.bits.proofs.Bytes.{length-unpack, drop-unpack}
use Rattle.bits.proofs.Numbers.{from_bits-lt}
use Rattle.bits.proofs.Octets.{octets-drop}
use Rattle.bits.proofs.Widths.{width-law}
use Rattle.std.specs.Prelude.{IsErrAnd}
use Rattle.std.specs.declared.result.Result.{Result}
use Rattle.shape.specs.Answer.{Answer, refused, got, numbered, refuse_if, map_answer}
use Rattle.shape.specs.Answer as answers
use Rattle.shape.specs.declared.answer.Refusal.{Refusal}
use Rattle.shape.specs.Shape.{Shape, void, list, tag_width, Values, decode}
use Rattle.shape.proofs.There.{tag_fits}
use Rattle.shape.proofs.Reading.{Slot, integer, same, value, slots, with_head, map-map, head_bytes, head-short, total, choice-at, choice-short, list-none, list-short, list-long, list_read, refused-on, got-on, handed-on, not_0}
use Rattle.protocol_param.specs.Value.{value_then, union, value_values, case_of, size_of, tag_at, case_at, known_or, value_at, announced, text_length, text_in, size_at, value_found}
use Rattle.protocol_param.specs.inside.Value.{sized}
use Rattle.protocol_param.specs.declared.value.Value.{Value}
use Rattle.protocol_param.specs.declared.value.Value.TheVariants.{Empty, Integer, Real, Boolean, Text, Unknown}

-- an answer, and what is read after it
abbrev pub after : {A B : Type 0} → Answer A → (A → Answer B) → Answer B
after (refused n) f = refused n
after (got a) f = f a

pub eight : width_of 128 ≡ 8
unfolding width_of width_in
eight = refl

pub three : tag_width 5 ≡ 3
unfolding width_of width_in
three = refl

pub two : tag_width 3 ≡ 2
unfolding width_of width_in
two = refl

pub six : 8 - tag_width 3 ≡ 6
six = ap (λ (j : ℕ). 8 - j) two

pub five : 8 - tag_width 5 ≡ 5
five = ap (λ (j : ℕ). 8 - j) three

-- a tag of at most five cases has at most three bits
pub narrow : (n : ℕ) → n ≤ 5 → tag_width n ≤ 3
narrow n h = (width-law (n - 1)).least 3 (omega arith)

not_none : (k : ℕ) → 1 < 2 ^ k → 1 ≤ k
not_none zero h = absurd (omega arith)
not_none (suc k) h = omega arith

-- ── answers ──

map-refuse : {A B : Type 0} (g : A → B) (b : Bool) (n : ℕ) (r : Answer A) → map_answer g (refuse_if b n r) ≡ refuse_if b n (map_answer g r)
unfolding map_answer refuse_if
map-refuse g true n r = refl
map-refuse g false n r = refl

map-ext : {A B : Type 0} (f g : A → B) → ((a : A) → f a ≡ g a) → (r : Answer A) → map_answer f r ≡ map_answer g r
unfolding map_answer
map-ext f g h (refused n) = refl
map-ext f g h (got a) = ap got (h a)

both : {B : Type 0} (a b : Bool) (k : ℕ) (f : ℕ → Answer B) → refuse_if a 15 (refuse_if b 16 (f k)) ≡ after (refuse_if a 15 (refuse_if b 16 (got k))) f
unfolding refuse_if
both true b k f = refl
both false true k f = refl
both false false k f = refl

-- ── no bits ──

number-none : (q r : ℕ) → number q r [] ≡ 0
unfolding number value_from
number-none zero r = ap (λ (l : List Bool). order.value l) (take_all r [] (omega arith))
number-none (suc q) r = rw (number-none q r)

from-none : (k : ℕ) → from_bits k [] ≡ 0
unfolding from_bits
from-none k = number-none (k / 8) (k % 8)

drop-none : (k : ℕ) → ◌≡◌ {A = List Bool} (drop k []) []
drop-none zero = refl
drop-none (suc k) = refl

pub byte-none : (s : List ℕ) → length s < 1 → from_bits (width_of 128) (unpack s) ≡ 0
unfolding unpack
byte-none [] h = from-none (width_of 128)
byte-none (b ∷ s) h = absurd (omega arith)

pub byte-lt : (s : List ℕ) → from_bits (width_of 128) (unpack s) < 256
byte-lt s = go (ltb (length s) 1) refl where
  go : (b : Bool) → ltb (length s) 1 ≡ b → from_bits (width_of 128) (unpack s) < 256
  go true e = omega (arith, byte-none s (ltb-true (length s) 1 e))
  go false e = rw eight (from_bits-lt 8 (unpack s) (omega (arith, length-unpack s, ltb-false (length s) 1 e)))

pub tag-none : (n : ℕ) (s : List ℕ) → length s < 1 → tag_at n s ≡ 0
unfolding tag_at unpack
tag-none n [] h = ap (λ (l : List Bool). from_bits (tag_width n) l) (drop-none (8 - tag_width n)) ∙ from-none (tag_width n)
tag-none n (b ∷ s) h = absurd (omega arith)

-- ── one number of k bytes at the front of s ──

one : (x : Slot) (k : ℕ) → total (x ∷ []) ≡ k * 8 → (d : Shape) (s : List ℕ) (b : Bool) → ltb (length s) k ≡ b
    → decode (slots (x ∷ []) d) (unpack s) ≡ refuse_if b 15 (map_answer (with_head (x ∷ []) d (unpack s) 0) (decode d (unpack (drop k s))))
unfolding refuse_if
one x k e d s true h = head-short (x ∷ []) d (unpack s) (omega (arith, length-unpack s, ltb-true (length s) k h))
one x k e d s false h = head_bytes (x ∷ []) d k e s (ltb-false (length s) k h)

-- one byte before it
one_more : (k : ℕ) (s : List ℕ) → 1 ≤ length s → ltb (length (drop 1 s)) k ≡ ltb (length s) (suc k)
one_more k s h = go (ltb (length s) (suc k)) refl where
  go : (b : Bool) → ltb (length s) (suc k) ≡ b → ltb (length (drop 1 s)) k ≡ b
  go true e = lt-ltb (length (drop 1 s)) k (omega (arith, length-drop 1 s, ltb-true (length s) (suc k) e))
  go false e = le-ltb (length (drop 1 s)) k (omega (arith, length-drop 1 s, ltb-false (length s) (suc k) e))

-- ── the fields of a case ──

-- N: the length of a text
module _ (n : ℕ) (d : Shape) (s : List ℕ) (o : Octets s) (some : 1 ≤ length s) (N : ℕ) where
  -- what is read of a value x, and after it
  abbrev held_by : Value → Answer (Values (union n d))
  held_by x =
      refuse_if (ltb (length s) (size_of x N)) 15
      (refuse_if (ltb 130 (size_of x N)) 16 (map_answer (value_values x (span s 2 N) n d) (decode d (unpack (drop (size_of x N) s)))))

  number-case : (x : Slot) (k : ℕ) → total (x ∷ []) ≡ k * 8 → {C : Type 0} (g : Values (slots (x ∷ []) d) → C) (f : Values d → C)
      → ((v : Values d) → g (with_head (x ∷ []) d (unpack (drop 1 s)) 0 v) ≡ f v)
      → map_answer g (decode (slots (x ∷ []) d) (unpack (drop 1 s))) ≡ refuse_if (ltb (length s) (suc k)) 15 (map_answer f (decode d (unpack (drop (suc k) s))))
  number-case x k e {C} g f is =
      let w = with_head (x ∷ []) d (unpack (drop 1 s)) 0 in
      let r = decode d (unpack (drop k (drop 1 s))) in
      let j : 1 + k ≡ suc k = omega arith in
      ap (λ (a : Answer (Values (slots (x ∷ []) d))). map_answer g a) (one x k e d (drop 1 s) (ltb (length (drop 1 s)) k) refl)
      ∙ map-refuse g (ltb (length (drop 1 s)) k) 15 (map_answer w r)
      ∙ ap (λ (b : Bool). refuse_if b 15 (map_answer g (map_answer w r))) (one_more k s some)
      ∙ ap (λ (a : Answer C). refuse_if (ltb (length s) (suc k)) 15 a)
      (map-map g w r ∙ map-ext (λ (v : Values d). g (w v)) f is r
      ∙ ap (λ (l : List ℕ). map_answer f (decode d (unpack l))) (drop-drop k 1 s ∙ ap (λ (i : ℕ). drop i s) j))

  module _ (eN : N ≡ from_bits (width_of 128) (unpack (drop 1 s))) where
    abbrev text : Values (list 8 128 d) → Values (union n d)
    text v = (4, v)

    none : length (drop 1 s) < 1 → map_answer text (decode (list 8 128 d) (unpack (drop 1 s))) ≡ held_by Text
    unfolding map_answer refuse_if
    none h = rw (list-none 128 d (unpack (drop 1 s)) (omega (arith, eight, length-unpack (drop 1 s))), lt-ltb (length s) (2 + N) (omega (arith, length-drop 1 s)))

    module _ (h : 1 ≤ length (drop 1 s)) where
      l : width_of 128 ≤ length (unpack (drop 1 s))
      l = omega (arith, eight, length-unpack (drop 1 s))

      os : Octets (drop 1 (drop 1 s))
      os = octets-drop 1 (drop 1 s) (octets-drop 1 s o)

      e : drop (width_of 128) (unpack (drop 1 s)) ≡ unpack (drop 1 (drop 1 s))
      e = ap (λ (k : ℕ). drop k (unpack (drop 1 s))) eight ∙ drop-unpack 1 (drop 1 s)

      size : length (drop 1 (drop 1 s)) + 2 ≡ length s
      size = omega (arith, length-drop 1 (drop 1 s), length-drop 1 s)

      short : length (drop 1 (drop 1 s)) < N → map_answer text (decode (list 8 128 d) (unpack (drop 1 s))) ≡ held_by Text
      unfolding map_answer refuse_if
      short k =
          rw (list-short 128 d (unpack (drop 1 s)) l (drop 1 (drop 1 s)) os e N eN k, lt-ltb (length s) (2 + N) (omega (arith, size)))

      long : N ≤ length (drop 1 (drop 1 s)) → 128 < N → map_answer text (decode (list 8 128 d) (unpack (drop 1 s))) ≡ held_by Text
      unfolding map_answer refuse_if
      long k m =
          rw (list-long 128 d (unpack (drop 1 s)) l (drop 1 (drop 1 s)) os e N eN k m, le-ltb (length s) (2 + N) (omega (arith, size)), lt-ltb 130 (2 + N) (omega arith))

      read : N ≤ length (drop 1 (drop 1 s)) → N ≤ 128 → map_answer text (decode (list 8 128 d) (unpack (drop 1 s))) ≡ held_by Text
      unfolding refuse_if
      read k m =
          let r = decode d (unpack (drop N (drop 1 (drop 1 s)))) in
          rw (le-ltb (length s) (2 + N) (omega (arith, size)), le-ltb 130 (2 + N) (omega arith))
          (ap (λ (a : Answer (Values (list 8 128 d))). map_answer text a) (list_read 128 d (unpack (drop 1 s)) l (drop 1 (drop 1 s)) os e N eN k m)
          ∙ map-map text (λ (v : Values d). (take N (drop 1 (drop 1 s)), v)) r
          ∙ ap (λ (l : List ℕ). map_answer (λ (v : Values d). text (take N l, v)) (decode d (unpack (drop N l)))) (drop-drop 1 1 s)
          ∙ ap (λ (l : List ℕ). map_answer (λ (v : Values d). text (span s 2 N, v)) (decode d (unpack l))) (drop-drop N 2 s))

    text-case : map_answer text (decode (list 8 128 d) (unpack (drop 1 s))) ≡ held_by Text
    text-case = go (ltb (length (drop 1 s)) 1) (ltb (length (drop 1 (drop 1 s))) N) (ltb 128 N) refl refl refl where
      go : (a b c : Bool) → ltb (length (drop 1 s)) 1 ≡ a → ltb (length (drop 1 (drop 1 s))) N ≡ b → ltb 128 N ≡ c
          → map_answer text (decode (list 8 128 d) (unpack (drop 1 s))) ≡ held_by Text
      go true b c ea eb ec = none (ltb-true (length (drop 1 s)) 1 ea)
      go false true c ea eb ec = short (ltb-false (length (drop 1 s)) 1 ea) (ltb-true (length (drop 1 (drop 1 s))) N eb)
      go false false true ea eb ec = long (ltb-false (length (drop 1 s)) 1 ea) (ltb-false (length (drop 1 (drop 1 s))) N eb) (ltb-true 128 N ec)
      go false false false ea eb ec = read (ltb-false (length (drop 1 s)) 1 ea) (ltb-false (length (drop 1 (drop 1 s))) N eb) (ltb-false 128 N ec)

  by-tag : (t : ℕ) → t < 5 → (t ≡ 4 → N ≡ from_bits (width_of 128) (unpack (drop 1 s)))
      → map_answer (λ (v : Values (value_then d t)). (t, v)) (decode (value_then d t) (unpack (drop 1 s))) ≡ held_by (case_at t s)
  unfolding refuse_if
  by-tag zero h eN = rw (le-ltb (length s) 1 some)
  by-tag (suc zero) h eN = number-case (integer 64) 8 refl (λ v. (1, v)) (value_values (case_at 1 s) (span s 2 N) n d) (λ v. refl)
  by-tag (suc (suc zero)) h eN = number-case (same 32) 4 refl (λ v. (2, v)) (value_values (case_at 2 s) (span s 2 N) n d) (λ v. refl)
  by-tag (suc (suc (suc zero))) h eN = number-case (value 8) 1 refl (λ v. (3, v)) (value_values (case_at 3 s) (span s 2 N) n d) (λ v. refl)
  by-tag (suc (suc (suc (suc zero)))) h eN = text-case (eN refl)
  by-tag (suc (suc (suc (suc (suc t))))) h eN = absurd (omega arith)

-- ── a tag and its case ──

pub value-is : (n : ℕ) (s : List ℕ) (t : ℕ) → tag_at n s ≡ t → t < n → value_at n s ≡ case_at t s
unfolding value_at
value-is n s t e l = rw (e, lt-ltb t n l)

pub value-unknown : (n : ℕ) (s : List ℕ) → n ≤ tag_at n s → value_at n s ≡ Unknown
unfolding value_at
value-unknown n s l = rw (le-ltb (tag_at n s) n l)

pub text-is : (s : List ℕ) → tag_at 5 s ≡ 4 → text_length s ≡ from_bits (width_of 128) (unpack (drop 1 s))
unfolding text_length
text-is s e = ap (λ (x : Value). announced x s) (value-is 5 s 4 e (lit< tt))

-- of what is no text, no length
none_or : (b : Bool) (t : ℕ) (s : List ℕ) → (t ≡ 4 → ⊥) → announced (known_or b (case_at t s)) s ≡ 0
none_or false t s h = refl
none_or true zero s h = refl
none_or true (suc zero) s h = refl
none_or true (suc (suc zero)) s h = refl
none_or true (suc (suc (suc zero))) s h = refl
none_or true (suc (suc (suc (suc zero)))) s h = absurd (h refl)
none_or true (suc (suc (suc (suc (suc t))))) s h = refl

pub no_text : (s : List ℕ) → (tag_at 5 s ≡ 4 → ⊥) → text_length s ≡ 0
unfolding text_length value_at
no_text s h = none_or (ltb (tag_at 5 s) 5) (tag_at 5 s) s h

-- the bytes of a value
module _ (n : ℕ) (s : List ℕ) where
  pub size_is : (t : ℕ) → tag_at n s ≡ t → t < n → size_at n s ≡ size_of (case_at t s) (text_length s)
  unfolding size_at
  size_is t e l = ap (λ (x : Value). size_of x (text_length s)) (value-is n s t e l)

  pub size-unknown : n ≤ tag_at n s → size_at n s ≡ 1
  unfolding size_at
  size-unknown l = ap (λ (x : Value). size_of x (text_length s)) (value-unknown n s l)

  -- no other tag is left but 0
  pub is_zero : n ≤ 5 → (t : ℕ) → t < n → (t ≡ 1 → ⊥) → (t ≡ 2 → ⊥) → (t ≡ 3 → ⊥) → (t ≡ 4 → ⊥) → t ≡ 0
  is_zero h zero l a b c d = refl
  is_zero h (suc zero) l a b c d = absurd (a refl)
  is_zero h (suc (suc zero)) l a b c d = absurd (b refl)
  is_zero h (suc (suc (suc zero))) l a b c d = absurd (c refl)
  is_zero h (suc (suc (suc (suc zero)))) l a b c d = absurd (d refl)
  is_zero h (suc (suc (suc (suc (suc t))))) l a b c d = absurd (omega arith)

  -- all of it is there, r being what follows its first byte
  pub rest-long : (t : ℕ) → tag_at n s ≡ t → t < n → size_at n s ≤ length s → (r : List ℕ) → r ≡ drop 1 s → size_of (case_at t s) (text_length s) ≤ length r + 1
  rest-long t e l h r f =
      let k : length r ≡ length s - 1 = ap (λ (x : List ℕ). length x) f ∙ length-drop 1 s in
      omega (arith, size_is t e l)

  -- what it is refused for
  pub sized-none : length s < 1 → sized n s ≡ refused 15
  unfolding sized refuse_if
  sized-none h = rw (lt-ltb (length s) 1 h)

  module _ (a : 1 ≤ length s) where
    pub sized-tag : n ≤ tag_at n s → sized n s ≡ refused 27
    unfolding sized refuse_if
    sized-tag h = rw (le-ltb (length s) 1 a, le-leb n (tag_at n s) h)

    module _ (b : tag_at n s < n) where
      pub sized-cut : length s < size_at n s → sized n s ≡ refused 15
      unfolding sized refuse_if
      sized-cut h = rw (le-ltb (length s) 1 a, lt-leb n (tag_at n s) b, lt-ltb (length s) (size_at n s) h)

      pub sized-long : size_at n s ≤ length s → 130 < size_at n s → sized n s ≡ refused 16
      unfolding sized refuse_if
      sized-long h k = rw (le-ltb (length s) 1 a, lt-leb n (tag_at n s) b, le-ltb (length s) (size_at n s) h, lt-ltb 130 (size_at n s) k)

      pub sized-all : size_at n s ≤ length s → size_at n s ≤ 130 → sized n s ≡ got (size_at n s)
      unfolding sized refuse_if
      sized-all h k = rw (le-ltb (length s) 1 a, lt-leb n (tag_at n s) b, le-ltb (length s) (size_at n s) h, le-ltb 130 (size_at n s) k)

-- the number of an answer
abbrev pub number_of : {A : Type 0} → Answer A → ℕ
number_of r = (numbered r).number

module _ (n : ℕ) (low : 2 ≤ n) (high : n ≤ 5) (d : Shape) (s : List ℕ) (o : Octets s) where
  abbrev w : ℕ
  w = tag_width n

  -- what is read from the tag on, and after the value
  abbrev found : ℕ → Answer (Values (union n d))
  found k = map_answer (value_found n d s) (decode d (unpack (drop k s)))

  some_bits : 1 ≤ w
  some_bits = not_none w (tag_fits n 1 low)

  nothing : length s < 1 → decode (union n d) (drop (8 - w) (unpack s)) ≡ refused 15
  nothing h =
      choice-short n (value_then d) (unpack s) (8 - w) (omega (arith, length-drop (8 - w) (unpack s), length-unpack s, some_bits))

  module _ (h : 1 ≤ length s) where
    at_tag : decode (union n d) (drop (8 - w) (unpack s)) ≡ refuse_if (leb n (tag_at n s)) 27
        (map_answer (λ (v : Values (value_then d (tag_at n s))). (tag_at n s, v)) (decode (value_then d (tag_at n s)) (unpack (drop 1 s))))
    unfolding tag_at
    at_tag =
        let k : 8 - w + w ≡ 1 * 8 = omega (arith, narrow n high) in
        choice-at n (value_then d) (unpack s) (8 - w) (omega (arith, length-unpack s, narrow n high))
        ∙ ap (λ (b : List Bool). refuse_if (leb n (from_bits w (drop (8 - w) (unpack s)))) 27
        (map_answer (λ (v : Values (value_then d (from_bits w (drop (8 - w) (unpack s))))). (from_bits w (drop (8 - w) (unpack s)), v))
        (decode (value_then d (from_bits w (drop (8 - w) (unpack s)))) b)))
        (ap (λ (i : ℕ). drop i (unpack s)) k ∙ drop-unpack 1 s)

    -- only of five cases one is a text
    which : tag_at n s ≡ 4 → tag_at n s < n → n ≡ 5
    which e l = omega arith

    known : tag_at n s < n
        → map_answer (λ (v : Values (value_then d (tag_at n s))). (tag_at n s, v)) (decode (value_then d (tag_at n s)) (unpack (drop 1 s)))
        ≡ refuse_if (ltb (length s) (size_at n s)) 15 (refuse_if (ltb 130 (size_at n s)) 16 (found (size_at n s)))
    unfolding size_at
    known l =
        by-tag n d s o h (text_length s) (tag_at n s) (omega arith)
        (λ e. text-is s (ap (λ (k : ℕ). tag_at k s) (sym (which e l)) ∙ e))
        ∙ ap (λ (x : Value). held_by n d s o h (text_length s) x) (sym (value-is n s (tag_at n s) refl l))

  by : (a b : Bool) → ltb (length s) 1 ≡ a → leb n (tag_at n s) ≡ b → decode (union n d) (drop (8 - w) (unpack s)) ≡ after (sized n s) found
  unfolding sized refuse_if
  by true b ea eb = rw ea (nothing (ltb-true (length s) 1 ea))
  by false true ea eb = rw (ea, eb) (at_tag (ltb-false (length s) 1 ea) ∙ rw eb)
  by false false ea eb =
      rw (ea, eb) (at_tag (ltb-false (length s) 1 ea) ∙ rw eb (known (ltb-false (length s) 1 ea) (leb-false n (tag_at n s) eb))
      ∙ both (ltb (length s) (size_at n s)) (ltb 130 (size_at n s)) (size_at n s) found)

  -- a value that is read as the union at s says
  pub value_read : decode (union n d) (drop (8 - w) (unpack s)) ≡ after (sized n s) found
  value_read = by (ltb (length s) 1) (leb n (tag_at n s)) refl refl

-- ── refused or all there ──

-- k: the number of an answer
pub refused-by : {A : Type 0} (r : Answer A) (k : ℕ) → k ≡ (numbered r).number → (k ≡ 0 → ⊥) → r ≡ refused k
refused-by (refused n) k e h = ap refused (sym e)
refused-by (got a) k e h = absurd (h e)

pub record All (n : ℕ) (s : List ℕ) : Type 0 where
  pub tag : tag_at n s < n
  pub there : size_at n s ≤ length s
  pub small : size_at n s ≤ 130
  pub is : sized n s ≡ got (size_at n s)

all-by : (n : ℕ) (s : List ℕ) (a b c d : Bool) → ltb (length s) 1 ≡ a → leb n (tag_at n s) ≡ b → ltb (length s) (size_at n s) ≡ c → ltb 130 (size_at n s) ≡ d
    → 0 ≡ (numbered (refuse_if a 15 (refuse_if b 27 (refuse_if c 15 (refuse_if d 16 (got (size_at n s))))))).number → All n s
unfolding refuse_if sized
all-by n s true b c d ea eb ec ed e = absurd (omega arith)
all-by n s false true c d ea eb ec ed e = absurd (omega arith)
all-by n s false false true d ea eb ec ed e = absurd (omega arith)
all-by n s false false false true ea eb ec ed e = absurd (omega arith)
all-by n s false false false false ea eb ec ed e =
    record {
      tag = leb-false n (tag_at n s) eb;
      there = ltb-false (length s) (size_at n s) ec;
      small = ltb-false 130 (size_at n s) ed;
      is = rw (ea, eb, ec, ed);
    }

pub value-all : (n : ℕ) (s : List ℕ) → 0 ≡ (numbered (sized n s)).number → All n s
unfolding sized
value-all n s e =
    all-by n s (ltb (length s) 1) (leb n (tag_at n s)) (ltb (length s) (size_at n s)) (ltb 130 (size_at n s)) refl refl refl refl e

-- ── what a struct shows of it ──

abbrev pub text_or : Value → List ℕ → List ℕ
text_or Text text = text
text_or Empty text = []
text_or (Integer z) text = []
text_or (Real x) text = []
text_or (Boolean z) text = []
text_or Unknown text = []

pub case-found : (x : Value) (text : List ℕ) (n : ℕ) (d : Shape) (rest : Values d)
    → case_of (value_values x text n d rest).0 d (value_values x text n d rest).1 ≡ record { value = x; text = text_or x text; rest = rest }
case-found Empty text n d rest = refl
case-found (Integer z) text n d rest = refl
case-found (Real x) text n d rest = refl
case-found (Boolean z) text n d rest = refl
case-found Text text n d rest = refl
case-found Unknown text n d rest = refl

-- of what is no text, no bytes are announced
none-announced : (x : Value) (s : List ℕ) → text_or x (span s 2 (announced x s)) ≡ span s 2 (announced x s)
none-announced Empty s = refl
none-announced (Integer z) s = refl
none-announced (Real x) s = refl
none-announced (Boolean z) s = refl
none-announced Text s = refl
none-announced Unknown s = refl

pub text-shown : (s : List ℕ) → text_or (value_at 5 s) (text_in s) ≡ text_in s
unfolding text_length
text-shown s = none-announced (value_at 5 s) s

size-by : (x : Value) (s : List ℕ) (N : ℕ) → size_of x N ≤ length s → size_of x (length (text_or x (span s 2 N))) ≡ size_of x N
size-by Empty s N h = refl
size-by (Integer z) s N h = refl
size-by (Real x) s N h = refl
size-by (Boolean z) s N h = refl
size-by Text s N h = ap (λ (k : ℕ). 2 + k) (length-take-le N (drop 2 s) (omega (arith, length-drop 2 s)))
size-by Unknown s N h = refl

pub size-shown : (n : ℕ) (s : List ℕ) → size_at n s ≤ length s → size_of (value_at n s) (length (text_or (value_at n s) (text_in s))) ≡ size_at n s
unfolding size_at
size-shown n s h = size-by (value_at n s) s (text_length s) h

-- ── places ──

announced-lt : (x : Value) (s : List ℕ) → announced x s < 256
announced-lt Empty s = lit< tt
announced-lt (Integer z) s = lit< tt
announced-lt (Real x) s = lit< tt
announced-lt (Boolean z) s = lit< tt
announced-lt Unknown s = lit< tt
announced-lt Text s = byte-lt (drop 1 s)

pub text-lt : (s : List ℕ) → text_length s < 256
unfolding text_length
text-lt s = announced-lt (value_at 5 s) s

size-lt : (x : Value) (N : ℕ) → N < 256 → size_of x N < 258
size-lt Empty N h = lit< tt
size-lt (Integer z) N h = lit< tt
size-lt (Real x) N h = lit< tt
size-lt (Boolean z) N h = lit< tt
size-lt Unknown N h = lit< tt
size-lt Text N h = omega arith

pub size-some : (x : Value) (N : ℕ) → 1 ≤ size_of x N
size-some Empty N = lit≤ tt
size-some (Integer z) N = lit≤ tt
size-some (Real x) N = lit≤ tt
size-some (Boolean z) N = lit≤ tt
size-some Unknown N = lit≤ tt
size-some Text N = omega arith

pub size-at-some : (n : ℕ) (s : List ℕ) → 1 ≤ size_at n s
unfolding size_at
size-at-some n s = size-some (value_at n s) (text_length s)

pub size-at-lt : (n : ℕ) (s : List ℕ) → size_at n s < 258
unfolding size_at
size-at-lt n s = size-lt (value_at n s) (text_length s) (text-lt s)

-- ── after padding ──

void-cut : (k : ℕ) (d : Shape) (bs : List Bool) → ltb (length bs) k ≡ true → decode (void k d) bs ≡ refused 15
unfolding decode refuse_if
void-cut k d bs h = rw h

void-whole : (k : ℕ) (d : Shape) (bs : List Bool) → ltb (length bs) k ≡ false → decode (void k d) bs ≡ decode d (drop k bs)
unfolding decode refuse_if
void-whole k d bs h = rw h

pub padded-read : (n : ℕ) → 2 ≤ n → n ≤ 5 → (k : ℕ) → 8 - tag_width n ≡ k → (d : Shape) (s : List ℕ) → Octets s
    → decode (void k (union n d)) (unpack s) ≡ after (sized n s) (λ (i : ℕ). map_answer (value_found n d s) (decode d (unpack (drop i s))))
padded-read n low high k e d s o =
    ap (λ (j : ℕ). decode (void j (union n d)) (unpack s)) (sym e) ∙ void-by (ltb (length (unpack s)) (8 - tag_width n)) refl where
      void-by : (b : Bool) → ltb (length (unpack s)) (8 - tag_width n) ≡ b
          → decode (void (8 - tag_width n) (union n d)) (unpack s) ≡ after (sized n s) (λ (i : ℕ). map_answer (value_found n d s) (decode d (unpack (drop i s))))
      void-by true h =
          let l : length s < 1 = omega (arith, length-unpack s, ltb-true (length (unpack s)) (8 - tag_width n) h) in
          void-cut (8 - tag_width n) (union n d) (unpack s) h ∙ sym (nothing n low high d s o l) ∙ value_read n low high d s o
      void-by false h = void-whole (8 - tag_width n) (union n d) (unpack s) h ∙ value_read n low high d s o

-- ── an answer, as a struct shows it ──

pub refuses : {A B : Type 0} (f : A → B) {r : Answer A} {n : ℕ} → r ≡ refused n → numbered (refused n) ≡ numbered (map_answer f r)
refuses f e = sym (ap numbered (refused-on f refl e))

pub gives : {A B : Type 0} (f : A → B) {r : Answer A} {v : A} {x : B} → x ≡ f v → r ≡ got v → numbered (got x) ≡ numbered (map_answer f r)
gives f {v = v} e h = ap (λ y. numbered (got y)) e ∙ sym (ap numbered (got-on f refl h))

-- x is refused for y, which `?` hands on as r: so is w
module _ {A B C : Type 0} (x : Answer A) {w : Answer B} (r : Result C Refusal) (y : Refusal) (h : IsErrAnd r (λ (z : Refusal). z ≡ y))
    (n : answers.number_of y ≡ (numbered x).number) (f : (k : ℕ) → x ≡ refused k → w ≡ refused k) where
  refused-so : w ≡ refused (answers.number_of y)
  refused-so = f (answers.number_of y) (refused-by x (answers.number_of y) n (not_0 y))

  pub stops : (answers.answer_of r).number ≡ (numbered w).number
  stops = ap (λ z. z.number) (handed-on r y h) ∙ sym (ap number_of refused-so)

  -- where g is of what w would give
  pub stopped : (g : B → C) → answers.answer_of r ≡ numbered (map_answer g w)
  stopped g = handed-on r y h ∙ refuses g refused-so

pub hands : {A B : Type 0} (x : Answer A) (g : A → B) (r : Result B Refusal) (y : Refusal) → IsErrAnd r (λ (z : Refusal). z ≡ y)
    → answers.number_of y ≡ (numbered x).number → answers.answer_of r ≡ numbered (map_answer g x)
hands x g r y h n = handed-on r y h ∙ refuses g (refused-by x (answers.number_of y) n (not_0 y))

-- ── cases ──

-- refused, or all there
module _ (n : ℕ) (s : List ℕ) {C : Type 0} (stop : (k : ℕ) → sized n s ≡ refused (suc k) → C) (go_on : All n s → C) where
  split : (k : ℕ) → k ≡ (numbered (sized n s)).number → C
  split zero e = go_on (value-all n s e)
  split (suc k) e = stop k (refused-by (sized n s) (suc k) e (λ z. omega arith))

  pub either : C
  either = split (numbered (sized n s)).number refl

-- too long, or not
pub by_length : {C : Type 0} (n m : ℕ) → (m < n → C) → (n ≤ m → C) → C
by_length {C} n m f g = go (ltb m n) refl where
  go : (b : Bool) → ltb m n ≡ b → C
  go true e = f (ltb-true m n e)
  go false e = g (ltb-false m n e)
