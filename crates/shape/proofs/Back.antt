-- What was read fits, and is written as it came, the ignored bits zero: over every description.
use mathlib.Core.Path.{◌≡◌, refl, sym, ap, ◌∙◌}
use mathlib.Core.Bool.{Bool, true, false, not, ◌&&◌}
use mathlib.Core.List.{List, ◌++◌, append_assoc}
use Prim.Native.Nat.{ℕ, ◌+◌, ◌*◌, ◌/◌, ◌%◌, ◌^◌, ◌≤◌, ◌<◌}
use native.Mathlib.Nat.{div-add-mod'}
use native.Mathlib.Omega.{arith}
use borrow.Author.Tests.{lt-ltb, le-leb, ltb-false, leb-false, eq-eqb}
use lib.Dec.{ltb, leb, eqb}
use lib.ListN.{length, take, drop, length-append, length-drop, take-append-drop}
use lib.Seq.{length-take-le}
use Rattle.bits.specs.Order.{to_bits, from_bits}
use Rattle.bits.proofs.Numbers.{length-to_bits, from_bits-lt, to_bits-from_bits}
use Rattle.bits.specs.Width.{width_of}
use Rattle.shape.specs.Answer.{Answer, refused, got, refuse_if, map_answer}
use Rattle.shape.specs.Cast.{Sign, Cast, value_of, cast_bits}
use Rattle.shape.specs.Shape.{Shape, end, num, raw, void, items, list, tail, choice, tag_width, Values, item_bits, items_of, all_zero, all_below, encode, decode, tags, fits, clear}
use Rattle.shape.proofs.CastFacts.{cast-back}
use Rattle.shape.proofs.Fields.{and_both, length-items_of, items_back, items-below}

-- bits that a message of shape d was read from
pub record Came (d : Shape) (bs : List Bool) (v : Values d) : Type 0 where
  pub pad : List Bool
  pub whole : clear d bs ≡ encode d v ++ pad
  pub long : length (clear d bs) ≡ length bs
  pub short : length pad < 8
  pub empty : all_zero pad ≡ true
  pub tagged : tags d v ≡ true
  pub fit : fits d v ≡ true

abbrev pub Good : (d : Shape) → List Bool → Answer (Values d) → Type 0
Good d bs (refused n) = Unit {0}
Good d bs (got v) = Came d bs v

-- in front what was taken off, after it the rest
joined : (t a c e pad : List Bool) → a ≡ t → c ≡ e ++ pad → t ++ c ≡ (a ++ e) ++ pad
joined t a c e pad h g = rw (← h, g) (sym (append_assoc a e pad))

as_long : (k : ℕ) (bs t c : List Bool) → k ≤ length bs → length t ≡ k → length c ≡ length (drop k bs) → length (t ++ c) ≡ length bs
as_long k bs t c h e g = length-append t c ∙ omega (arith, length-drop k bs)

good-end : (bs : List Bool) (b z : Bool) → leb 8 (length bs) ≡ b → all_zero bs ≡ z → Good end bs (refuse_if b 16 (refuse_if (not z) 25 (got tt)))
unfolding refuse_if encode fits clear
good-end bs true z e k = tt
good-end bs false false e k = tt
good-end bs false true e k = record { pad = bs; whole = refl; long = refl; short = leb-false 8 (length bs) e; empty = k; tagged = refl; fit = refl }

good-num : (s : Sign) (c : Cast) (w : ℕ) (d : Shape) (bs : List Bool) (b : Bool) → ltb (length bs) w ≡ b → (r : Answer (Values d)) → Good d (drop w bs) r
    → Good (num s c w d) bs (refuse_if b 15 (map_answer (λ (v : Values d). (value_of s w (from_bits w bs), v)) r))
unfolding refuse_if map_answer encode fits clear
good-num s c w d bs true e r g = tt
good-num s c w d bs false e (refused n) g = tt
good-num s c w d bs false e (got v) g =
    let l : w ≤ length bs = ltb-false (length bs) w e in
    let n : cast_bits s c w (value_of s w (from_bits w bs)) ≡ from_bits w bs = cast-back s c w (from_bits w bs) (from_bits-lt w bs l) in
    record {
      pad = g.pad;
      whole = joined (take w bs) (to_bits w (cast_bits s c w (value_of s w (from_bits w bs)))) (clear d (drop w bs)) (encode d v) g.pad
          (ap (λ (k : ℕ). to_bits w k) n ∙ to_bits-from_bits w bs l) g.whole;
      long = as_long w bs (take w bs) (clear d (drop w bs)) l (length-take-le w bs l) g.long;
      short = g.short;
      empty = g.empty;
      tagged = g.tagged;
      fit = g.fit;
    }

good-raw : (w : ℕ) (d : Shape) (bs : List Bool) (b : Bool) → ltb (length bs) w ≡ b → (r : Answer (Values d)) → Good d (drop w bs) r
    → Good (raw w d) bs (refuse_if b 15 (map_answer (λ (v : Values d). (from_bits w bs, v)) r))
unfolding refuse_if map_answer encode fits clear
good-raw w d bs true e r g = tt
good-raw w d bs false e (refused n) g = tt
good-raw w d bs false e (got v) g =
    let l : w ≤ length bs = ltb-false (length bs) w e in
    record {
      pad = g.pad;
      whole = joined (take w bs) (to_bits w (from_bits w bs)) (clear d (drop w bs)) (encode d v) g.pad (to_bits-from_bits w bs l) g.whole;
      long = as_long w bs (take w bs) (clear d (drop w bs)) l (length-take-le w bs l) g.long;
      short = g.short;
      empty = g.empty;
      tagged = g.tagged;
      fit = and_both (ltb (from_bits w bs) (2 ^ w)) (fits d v) (lt-ltb (from_bits w bs) (2 ^ w) (from_bits-lt w bs l)) g.fit;
    }

good-void : (w : ℕ) (d : Shape) (bs : List Bool) (b : Bool) → ltb (length bs) w ≡ b → (r : Answer (Values d)) → Good d (drop w bs) r
    → Good (void w d) bs (refuse_if b 15 r)
unfolding refuse_if encode fits clear
good-void w d bs true e r g = tt
good-void w d bs false e (refused n) g = tt
good-void w d bs false e (got v) g =
    record {
      pad = g.pad;
      whole = joined (to_bits w 0) (to_bits w 0) (clear d (drop w bs)) (encode d v) g.pad refl g.whole;
      long = as_long w bs (to_bits w 0) (clear d (drop w bs)) (ltb-false (length bs) w e) (length-to_bits w 0) g.long;
      short = g.short;
      empty = g.empty;
      tagged = g.tagged;
      fit = g.fit;
    }

good-items : (w k : ℕ) (d : Shape) (bs : List Bool) (b : Bool) → ltb (length bs) (k * w) ≡ b → (r : Answer (Values d)) → Good d (drop (k * w) bs) r
    → Good (items w k d) bs (refuse_if b 15 (map_answer (λ (v : Values d). (items_of w k bs, v)) r))
unfolding refuse_if map_answer encode fits clear
good-items w k d bs true e r g = tt
good-items w k d bs false e (refused n) g = tt
good-items w k d bs false e (got v) g =
    let l : k * w ≤ length bs = ltb-false (length bs) (k * w) e in
    record {
      pad = g.pad;
      whole = joined (take (k * w) bs) (item_bits w (items_of w k bs)) (clear d (drop (k * w) bs)) (encode d v) g.pad (items_back w k bs l) g.whole;
      long = as_long (k * w) bs (take (k * w) bs) (clear d (drop (k * w) bs)) l (length-take-le (k * w) bs l) g.long;
      short = g.short;
      empty = g.empty;
      tagged = g.tagged;
      fit = and_both (eqb (length (items_of w k bs)) k) (all_below (2 ^ w) (items_of w k bs) && fits d v) (eq-eqb (length (items_of w k bs)) k (length-items_of w k bs))
          (and_both (all_below (2 ^ w) (items_of w k bs)) (fits d v) (items-below w k bs l) g.fit);
    }

-- n: the length that was read, rest: what comes after it
good-list : (w m : ℕ) (d : Shape) (bs : List Bool) (b₁ b₂ b₃ : Bool) → ltb (length bs) (width_of m) ≡ b₁
    → ltb (length (drop (width_of m) bs)) (from_bits (width_of m) bs * w) ≡ b₂ → ltb m (from_bits (width_of m) bs) ≡ b₃
    → (r : Answer (Values d)) → Good d (drop (from_bits (width_of m) bs * w) (drop (width_of m) bs)) r
    → Good (list w m d) bs
    (refuse_if b₁ 15 (refuse_if b₂ 15 (refuse_if b₃ 16 (map_answer (λ (v : Values d). (items_of w (from_bits (width_of m) bs) (drop (width_of m) bs), v)) r))))
unfolding refuse_if map_answer encode fits clear
good-list w m d bs true b₂ b₃ e₁ e₂ e₃ r g = tt
good-list w m d bs false true b₃ e₁ e₂ e₃ r g = tt
good-list w m d bs false false true e₁ e₂ e₃ r g = tt
good-list w m d bs false false false e₁ e₂ e₃ (refused n) g = tt
good-list w m d bs false false false e₁ e₂ e₃ (got v) g =
    let n = from_bits (width_of m) bs in
    let rest = drop (width_of m) bs in
    let xs = items_of w n rest in
    let l₁ : width_of m ≤ length bs = ltb-false (length bs) (width_of m) e₁ in
    let l₂ : n * w ≤ length rest = ltb-false (length rest) (n * w) e₂ in
    let l₃ : n ≤ m = ltb-false m n e₃ in
    let k : length xs ≡ n = length-items_of w n rest in
    let a : to_bits (width_of m) (length xs) ≡ take (width_of m) bs = ap (λ (j : ℕ). to_bits (width_of m) j) k ∙ to_bits-from_bits (width_of m) bs l₁ in
    record {
      pad = g.pad;
      whole = joined (take (width_of m) bs) (to_bits (width_of m) (length xs)) (take (n * w) rest ++ clear d (drop (n * w) rest)) (item_bits w xs ++ encode d v)
          g.pad a
          (joined (take (n * w) rest) (item_bits w xs) (clear d (drop (n * w) rest)) (encode d v) g.pad (items_back w n rest l₂) g.whole);
      long = as_long (width_of m) bs (take (width_of m) bs) (take (n * w) rest ++ clear d (drop (n * w) rest)) l₁ (length-take-le (width_of m) bs l₁)
          (as_long (n * w) rest (take (n * w) rest) (clear d (drop (n * w) rest)) l₂ (length-take-le (n * w) rest l₂) g.long);
      short = g.short;
      empty = g.empty;
      tagged = g.tagged;
      fit = and_both (leb (length xs) m) (all_below (2 ^ w) xs && fits d v) (le-leb (length xs) m (omega arith))
          (and_both (all_below (2 ^ w) xs) (fits d v) (items-below w n rest l₂) g.fit);
    }

good-tail : (w m : ℕ) (ok : List ℕ → Bool) (bs : List Bool) (b₁ b₂ b₃ b₄ : Bool) → ltb m (length bs / w) ≡ b₁ → leb 8 (length bs % w) ≡ b₂
    → all_zero (drop (length bs / w * w) bs) ≡ b₃ → ok (items_of w (length bs / w) bs) ≡ b₄
    → Good (tail w m ok) bs (refuse_if b₁ 16 (refuse_if b₂ 16 (refuse_if (not b₃) 25 (refuse_if (not b₄) 17 (got (items_of w (length bs / w) bs))))))
unfolding refuse_if map_answer encode fits clear
good-tail w m ok bs true b₂ b₃ b₄ e₁ e₂ e₃ e₄ = tt
good-tail w m ok bs false true b₃ b₄ e₁ e₂ e₃ e₄ = tt
good-tail w m ok bs false false false b₄ e₁ e₂ e₃ e₄ = tt
good-tail w m ok bs false false true false e₁ e₂ e₃ e₄ = tt
good-tail w m ok bs false false true true e₁ e₂ e₃ e₄ =
    let n = length bs / w in
    let xs = items_of w n bs in
    let d : n * w + length bs % w ≡ length bs = div-add-mod' (length bs) w in
    let l : n * w ≤ length bs = omega arith in
    let s : length bs % w < 8 = leb-false 8 (length bs % w) e₂ in
    record {
      pad = drop (n * w) bs;
      whole = sym (ap (λ (a : List Bool). a ++ drop (n * w) bs) (items_back w n bs l) ∙ take-append-drop (n * w) bs);
      long = refl;
      short = rw length-drop (omega arith);
      empty = e₃;
      tagged = refl;
      fit = and_both (leb (length xs) m) (all_below (2 ^ w) xs && ok xs) (le-leb (length xs) m (omega (arith, length-items_of w n bs, ltb-false m n e₁)))
          (and_both (all_below (2 ^ w) xs) (ok xs) (items-below w n bs l) e₄);
    }

good-choice : (n : ℕ) (f : ℕ → Shape) (bs : List Bool) (b₁ b₂ : Bool) → ltb (length bs) (tag_width n) ≡ b₁ → leb n (from_bits (tag_width n) bs) ≡ b₂
    → (r : Answer (Values (f (from_bits (tag_width n) bs)))) → Good (f (from_bits (tag_width n) bs)) (drop (tag_width n) bs) r
    → Good (choice n f) bs
    (refuse_if b₁ 15 (refuse_if b₂ 27 (map_answer (λ (v : Values (f (from_bits (tag_width n) bs))). (from_bits (tag_width n) bs, v)) r)))
unfolding refuse_if map_answer encode fits clear
good-choice n f bs true b₂ e₁ e₂ r g = tt
good-choice n f bs false true e₁ e₂ r g = tt
good-choice n f bs false false e₁ e₂ (refused k) g = tt
good-choice n f bs false false e₁ e₂ (got v) g =
    let w = tag_width n in
    let t = from_bits w bs in
    let l : w ≤ length bs = ltb-false (length bs) w e₁ in
    record {
      pad = g.pad;
      whole = joined (take w bs) (to_bits w t) (clear (f t) (drop w bs)) (encode (f t) v) g.pad (to_bits-from_bits w bs l) g.whole;
      long = as_long w bs (take w bs) (clear (f t) (drop w bs)) l (length-take-le w bs l) g.long;
      short = g.short;
      empty = g.empty;
      tagged = and_both (ltb t n) (tags (f t) v) (lt-ltb t n (leb-false n t e₂)) g.tagged;
      fit = g.fit;
    }

pub back : (d : Shape) (bs : List Bool) → Good d bs (decode d bs)
unfolding decode
back end bs = good-end bs (leb 8 (length bs)) (all_zero bs) refl refl
back (num s c w d) bs = good-num s c w d bs (ltb (length bs) w) refl (decode d (drop w bs)) (back d (drop w bs))
back (raw w d) bs = good-raw w d bs (ltb (length bs) w) refl (decode d (drop w bs)) (back d (drop w bs))
back (void w d) bs = good-void w d bs (ltb (length bs) w) refl (decode d (drop w bs)) (back d (drop w bs))
back (items w k d) bs = good-items w k d bs (ltb (length bs) (k * w)) refl (decode d (drop (k * w) bs)) (back d (drop (k * w) bs))
back (list w m d) bs =
    let n = from_bits (width_of m) bs in
    let rest = drop (width_of m) bs in
    good-list w m d bs (ltb (length bs) (width_of m)) (ltb (length rest) (n * w)) (ltb m n) refl refl refl (decode d (drop (n * w) rest)) (back d (drop (n * w) rest))
back (tail w m ok) bs =
    let n = length bs / w in
    good-tail w m ok bs (ltb m n) (leb 8 (length bs % w)) (all_zero (drop (n * w) bs)) (ok (items_of w n bs)) refl refl refl refl
back (choice n f) bs =
    let w = tag_width n in
    let t = from_bits w bs in
    good-choice n f bs (ltb (length bs) w) (leb n t) refl refl (decode (f t) (drop w bs)) (back (f t) (drop w bs))
