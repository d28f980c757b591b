-- RULES 9.1 to 9.11, 9.15: a message described once, field by field. Its bits, its reading and its refusals follow from the description.
use Rattle.std.specs.Prelude.{Bool, true, not, ◌&&◌, List, [], ◌∷◌, ◌++◌, ℕ, zero, suc, ◌*◌, ◌-◌, ◌/◌, ◌%◌, ◌^◌, ltb, leb, eqb, ℤ, length, take, drop}
use Rattle.bits.specs.Order.{to_bits, from_bits, unpack, bytes, pack}
use Rattle.bits.specs.Width.{width_of}
use Rattle.shape.specs.Answer.{Answer, got, Numbered, refuse_if, map_answer, wrote}
use Rattle.shape.specs.Cast.{Sign, Cast, unsigned, saturated, value_of, holds, cast_bits, clip}

-- ── a description: each field holds what follows it, so that a list without a length field is last ──

pub data Shape : Type 0 where
  end : Shape
  -- a number of w bits (RULES 9.2, 9.13, 9.14): its sign, its cast mode, w
  num : Sign → Cast → ℕ → Shape → Shape
  -- w bits that are kept as they are (RULES 9.2): those of a float, or of a number whose type has no other values
  raw : ℕ → Shape → Shape
  -- w bits that are written as zero and ignored in reading (RULES 9.8)
  void : ℕ → Shape → Shape
  -- exactly k items of w bits (RULES 9.5): w, k
  items : ℕ → ℕ → Shape → Shape
  -- at most m items of w bits, after a length field (RULES 9.3): w, m
  list : ℕ → ℕ → Shape → Shape
  -- at most m items of w bits, 8 or more, the last thing of all, with no length field (RULES 9.4): w, m, what the content must pass
  tail : ℕ → ℕ → (List ℕ → Bool) → Shape
  -- a union of n cases (RULES 9.15): n, and from the tag on what follows it, the fields of its case and then those after the union
  choice : ℕ → (ℕ → Shape) → Shape

-- RULES 9.14: an unsigned number, of the cast mode that a definition has if it names none
abbrev pub uint : ℕ → Shape → Shape
uint w d = num unsigned saturated w d

-- RULES 9.15: a tag has the fewest bits that number the cases
abbrev pub tag_width : ℕ → ℕ
tag_width n = width_of (n - 1)

-- what a message of this shape holds; numbers may be any, in the field's range or not
abbrev pub Values : Shape → Type 0
Values end = Unit {0}
Values (num s c w d) = ℤ × Values d
Values (raw w d) = ℕ × Values d
Values (void w d) = Values d
Values (items w k d) = List ℕ × Values d
Values (list w m d) = List ℕ × Values d
Values (tail w m ok) = List ℕ
Values (choice n f) = (t : ℕ) × Values (f t)

-- any content
abbrev pub anything : List ℕ → Bool
anything xs = true

-- ── items of w bits ──

unfoldable pub item_bits : ℕ → List ℕ → List Bool
item_bits w [] = []
item_bits w (x ∷ xs) = to_bits w x ++ item_bits w xs

-- the n items at the front of bs
unfoldable pub items_of : ℕ → ℕ → List Bool → List ℕ
items_of w zero bs = []
items_of w (suc n) bs = from_bits w bs ∷ items_of w n (drop w bs)

abbrev pub all_zero : List Bool → Bool
all_zero [] = true
all_zero (b ∷ bs) = not b && all_zero bs

unfoldable pub all_below : ℕ → List ℕ → Bool
all_below n [] = true
all_below n (x ∷ xs) = ltb x n && all_below n xs

-- ── the bits of a message ──

unfoldable pub encode : (d : Shape) → Values d → List Bool
encode end v = []
encode (num s c w d) v = to_bits w (cast_bits s c w v.0) ++ encode d v.1
encode (raw w d) v = to_bits w v.0 ++ encode d v.1
encode (void w d) v = to_bits w 0 ++ encode d v
encode (items w k d) v = item_bits w v.0 ++ encode d v.1
encode (list w m d) v = to_bits (width_of m) (length v.0) ++ (item_bits w v.0 ++ encode d v.1)
encode (tail w m ok) v = item_bits w v
encode (choice n f) v = to_bits (tag_width n) v.0 ++ encode (f v.0) v.1

-- ── reading, field by field (RULES 9.6): 15 the payload ends in a field, 16 too many, 25 padding not zero, 27 no case, 17 not allowed ──
-- A list at the end may start inside a byte: all is counted in bits. Where lists hold bytes and start at whole bytes none is left over (`ByteLists`).

unfoldable pub decode : (d : Shape) → List Bool → Answer (Values d)
decode end bs = refuse_if (leb 8 (length bs)) 16 (refuse_if (not (all_zero bs)) 25 (got tt))
decode (num s c w d) bs = refuse_if (ltb (length bs) w) 15 (map_answer (λ v. (value_of s w (from_bits w bs), v)) (decode d (drop w bs)))
decode (raw w d) bs = refuse_if (ltb (length bs) w) 15 (map_answer (λ v. (from_bits w bs, v)) (decode d (drop w bs)))
decode (void w d) bs = refuse_if (ltb (length bs) w) 15 (decode d (drop w bs))
decode (items w k d) bs =
    refuse_if (ltb (length bs) (k * w)) 15 (map_answer (λ v. (items_of w k bs, v)) (decode d (drop (k * w) bs)))
decode (list w m d) bs =
    let n = from_bits (width_of m) bs in
    let rest = drop (width_of m) bs in
    refuse_if (ltb (length bs) (width_of m)) 15
    (refuse_if (ltb (length rest) (n * w)) 15
    (refuse_if (ltb m n) 16 (map_answer (λ v. (items_of w n rest, v)) (decode d (drop (n * w) rest)))))
decode (tail w m ok) bs =
    let n = length bs / w in
    refuse_if (ltb m n) 16
    (refuse_if (leb 8 (length bs % w)) 16
    (refuse_if (not (all_zero (drop (n * w) bs))) 25
    (refuse_if (not (ok (items_of w n bs))) 17 (got (items_of w n bs)))))
decode (choice n f) bs =
    let t = from_bits (tag_width n) bs in
    refuse_if (ltb (length bs) (tag_width n)) 15 (refuse_if (leb n t) 27 (map_answer (λ v. (t, v)) (decode (f t) (drop (tag_width n) bs))))

-- ── writing (RULES 9.7): 27 over all tags, 17 over all lists, then 8 ──

-- every tag is that of a case
abbrev pub tags : (d : Shape) → Values d → Bool
tags end v = true
tags (num s c w d) v = tags d v.1
tags (raw w d) v = tags d v.1
tags (void w d) v = tags d v
tags (items w k d) v = tags d v.1
tags (list w m d) v = tags d v.1
tags (tail w m ok) v = true
tags (choice n f) v = ltb v.0 n && tags (f v.0) v.1

unfoldable pub fits : (d : Shape) → Values d → Bool
fits end v = true
fits (num s c w d) v = fits d v.1
fits (raw w d) v = ltb v.0 (2 ^ w) && fits d v.1
fits (void w d) v = fits d v
fits (items w k d) v = eqb (length v.0) k && (all_below (2 ^ w) v.0 && fits d v.1)
fits (list w m d) v = leb (length v.0) m && (all_below (2 ^ w) v.0 && fits d v.1)
fits (tail w m ok) v = leb (length v) m && (all_below (2 ^ w) v && ok v)
fits (choice n f) v = fits (f v.0) v.1

-- ── what is read of a message that was written (RULES 9.14) ──

unfoldable pub clipped : (d : Shape) → Values d → Values d
clipped end v = v
clipped (num s c w d) v = (clip s c w v.0, clipped d v.1)
clipped (raw w d) v = (v.0, clipped d v.1)
clipped (void w d) v = clipped d v
clipped (items w k d) v = (v.0, clipped d v.1)
clipped (list w m d) v = (v.0, clipped d v.1)
clipped (tail w m ok) v = v
clipped (choice n f) v = (v.0, clipped (f v.0) v.1)

-- every number is one that its field holds, and every tag that of a case
unfoldable pub within : (d : Shape) → Values d → Bool
within end v = true
within (num s c w d) v = holds s w v.0 && within d v.1
within (raw w d) v = within d v.1
within (void w d) v = within d v
within (items w k d) v = within d v.1
within (list w m d) v = within d v.1
within (tail w m ok) v = true
within (choice n f) v = ltb v.0 n && within (f v.0) v.1

-- ── whole payloads ──

abbrev pub decoded : (d : Shape) → List ℕ → Answer (Values d)
decoded d p = decode d (unpack p)

abbrev pub message : (d : Shape) → Values d → List ℕ
message d v = pack (encode d v)

unfoldable pub encoded : (d : Shape) → Values d → ℕ → Answer (List ℕ)
encoded d v room =
    refuse_if (not (tags d v)) 27 (refuse_if (not (fits d v)) 17 (refuse_if (ltb room (length (message d v))) 8 (got (message d v))))

-- what a writer answers, and the buffer m after it
abbrev pub written : (d : Shape) → Values d → List ℕ → Numbered ℕ × List ℕ
written d v m = wrote (encoded d v (length m)) m

-- ── a payload with its ignored bits zero (RULES 9.8) ──

unfoldable pub clear : Shape → List Bool → List Bool
clear end bs = bs
clear (num s c w d) bs = take w bs ++ clear d (drop w bs)
clear (raw w d) bs = take w bs ++ clear d (drop w bs)
clear (void w d) bs = to_bits w 0 ++ clear d (drop w bs)
clear (items w k d) bs = take (k * w) bs ++ clear d (drop (k * w) bs)
clear (list w m d) bs =
    let n = from_bits (width_of m) bs in
    let rest = drop (width_of m) bs in
    take (width_of m) bs ++ (take (n * w) rest ++ clear d (drop (n * w) rest))
clear (tail w m ok) bs = bs
clear (choice n f) bs = take (tag_width n) bs ++ clear (f (from_bits (tag_width n) bs)) (drop (tag_width n) bs)

abbrev pub cleared : Shape → List ℕ → List ℕ
cleared d p = bytes (length p) (clear d (unpack p))
