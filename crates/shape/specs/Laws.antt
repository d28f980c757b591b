-- RULES 9.10: the return trip, over every description. `laws.rt` has a function for each law, whose contract it is.
use Rattle.std.specs.Prelude.{◌≡◌, Bool, true, false, not, List, ℕ, ◌+◌, ◌*◌, ◌%◌, ◌^◌, ◌≤◌, ◌<◌, ltb, ℤ, length, drop}
use Rattle.bits.specs.Order.{Octets, unpack, from_bits}
use Rattle.bits.specs.Part.{span}
use Rattle.bits.specs.Width.{width_of}
use Rattle.shape.specs.Answer.{refused, got, refuse_if, map_answer}
use Rattle.shape.specs.Cast.{Sign, Cast, unsigned, signed, saturated, value_of, holds, nearest, cast_bits, clip}
use Rattle.shape.specs.Shape.{Shape, end, num, raw, uint, void, items, list, tail, choice, tag_width, Values, item_bits, items_of, decode, tags, clipped, within, decoded, encoded, cleared}

-- RULES 9.4: items of a list without a length field have 8 bits or more, signed numbers at least one
abbrev pub Sound : Shape → Type 0
Sound end = Unit {0}
Sound (num unsigned c w d) = Sound d
Sound (num signed c w d) = (1 ≤ w) × Sound d
Sound (raw w d) = Sound d
Sound (void w d) = Sound d
Sound (items w k d) = Sound d
Sound (list w m d) = Sound d
Sound (tail w m ok) = 8 ≤ w
Sound (choice n f) = (t : ℕ) → t < n → Sound (f t)

-- nothing in it is ignored (RULES 9.8)
abbrev pub Whole : Shape → Type 0
Whole end = Unit {0}
Whole (num s c w d) = Whole d
Whole (raw w d) = Whole d
Whole (void w d) = ⊥
Whole (items w k d) = Whole d
Whole (list w m d) = Whole d
Whole (tail w m ok) = Unit {0}
Whole (choice n f) = (t : ℕ) → Whole (f t)

-- what was written is read: every field comes back, numbers as they were clipped
abbrev pub There : Type 0
There = (d : Shape) → Sound d → (v : Values d) (room : ℕ) (p : List ℕ) → encoded d v room ≡ got p → decoded d p ≡ got (clipped d v)

-- RULES 9.14: numbers that their fields hold are not changed
abbrev pub Kept : Type 0
Kept = (d : Shape) → Sound d → (v : Values d) → within d v ≡ true → clipped d v ≡ v

-- what was read is written as it came, the ignored bits zero
abbrev pub Back : Type 0
Back = (d : Shape) (p : List ℕ) (v : Values d) (room : ℕ) → decoded d p ≡ got v → length p ≤ room → encoded d v room ≡ got (cleared d p)

-- where nothing is ignored, that is the payload itself
abbrev pub Same : Type 0
Same = (d : Shape) → Whole d → (p : List ℕ) → Octets p → cleared d p ≡ p

-- RULES 9.15: over every number of cases, whatever they are
pub record Unions : Type 0 where
  -- the tag numbers all cases, and no fewer bits do
  pub numbers : (n t : ℕ) → t < n → t < 2 ^ tag_width n
  pub least : (n w : ℕ) → ((t : ℕ) → t < n → t < 2 ^ w) → tag_width n ≤ w
  -- a tag that no case has is refused, before anything that follows it is looked at
  pub read : (n : ℕ) (f : ℕ → Shape) (bs : List Bool) → tag_width n ≤ length bs → n ≤ from_bits (tag_width n) bs → decode (choice n f) bs ≡ refused 27
  -- and in writing before anything else
  pub write : (d : Shape) (v : Values d) (room : ℕ) → tags d v ≡ false → encoded d v room ≡ refused 27

-- RULES 9.4, as instances: a list at the end, of items of 8 to 64 bits, that starts after h bits and so perhaps inside a byte
pub record TailTrips (h w m : ℕ) (ok : List ℕ → Bool) : Type 0 where
  pub there : (v : Values (uint h (tail w m ok))) (room : ℕ) (p : List ℕ) → encoded (uint h (tail w m ok)) v room ≡ got p
      → decoded (uint h (tail w m ok)) p ≡ got (clipped (uint h (tail w m ok)) v)
  pub back : (p : List ℕ) → Octets p → (v : Values (uint h (tail w m ok))) (room : ℕ) → decoded (uint h (tail w m ok)) p ≡ got v → length p ≤ room
      → encoded (uint h (tail w m ok)) v room ≡ got p

abbrev pub Tails : Type 0
Tails = (h w m : ℕ) (ok : List ℕ → Bool) → 8 ≤ w → w ≤ 64 → TailTrips h w m ok

-- RULES 9.4: after k bits, each list holds bytes, and whole bytes come before the list at the end, or before the end
abbrev pub OnBytes : ℕ → Shape → Type 0
OnBytes k end = k % 8 ≡ 0
OnBytes k (num s c w d) = OnBytes (k + w) d
OnBytes k (raw w d) = OnBytes (k + w) d
OnBytes k (void w d) = OnBytes (k + w) d
OnBytes k (items w n d) = OnBytes (k + n * w) d
OnBytes k (list w m d) = (w ≡ 8) × OnBytes (k + width_of m) d
OnBytes k (tail w m ok) = (w ≡ 8) × (k % 8 ≡ 0)
OnBytes k (choice n f) = (t : ℕ) → t < n → OnBytes (k + tag_width n) (f t)

-- no payload is refused for padding
abbrev pub Never25 : Shape → Type 0
Never25 d = (p : List ℕ) → decoded d p ≡ refused 25 → ⊥

-- Lists of bytes at whole bytes are parts of the payload, and the rule over every width is for them the one on bytes.
pub record ByteLists : Type 0 where
  -- what is read and written item by item is what is copied
  pub read : (s : List ℕ) (at n : ℕ) → Octets s → at + n ≤ length s → items_of 8 n (drop (at * 8) (unpack s)) ≡ span s at n
  pub write : (xs : List ℕ) → item_bits 8 xs ≡ unpack xs
  -- at the end, the list is the rest of the payload, and nothing is left over
  pub rest : (m : ℕ) (ok : List ℕ → Bool) (s : List ℕ) → Octets s
      → decode (tail 8 m ok) (unpack s) ≡ refuse_if (ltb m (length s)) 16 (refuse_if (not (ok s)) 17 (got s))
  -- so that no such type answers 25
  pub never-25 : (d : Shape) → OnBytes 0 d → Never25 d

-- RULES 9.13, 9.14: over every width, both signs and both cast modes
pub record CastLaws : Type 0 where
  -- a number is written as w bits
  pub fits : (s : Sign) (c : Cast) (w : ℕ) (z : ℤ) → cast_bits s c w z < 2 ^ w
  -- saturated, they stand for the nearest number that w bits hold
  pub saturates : (s : Sign) (w : ℕ) (z : ℤ) → 1 ≤ w → clip s saturated w z ≡ nearest s w z
  -- a number that w bits hold is kept
  pub keeps : (s : Sign) (c : Cast) (w : ℕ) (z : ℤ) → 1 ≤ w → holds s w z ≡ true → clip s c w z ≡ z
  -- and every w bits are those of such a number
  pub back : (s : Sign) (c : Cast) (w n : ℕ) → 1 ≤ w → n < 2 ^ w → (cast_bits s c w (value_of s w n) ≡ n) × (holds s w (value_of s w n) ≡ true)

-- The return trip of one type. `of` is what its reader's struct shows of the values, `at` what is in a payload at the places of the numbers
-- and in the parts that the list functions give.
pub record Trips (d : Shape) {A : Type 0} (of : Values d → A) (at : List ℕ → Values d) : Type 0 where
  -- what was read stands at its place, every list byte for byte
  pub placed : (p : List ℕ) → Octets p → (v : Values d) → decoded d p ≡ got v → v ≡ at p
  -- what was written is read, numbers as they were clipped: the struct, and each number and list at its place
  pub there : (v : Values d) (room : ℕ) (p : List ℕ) → encoded d v room ≡ got p → (map_answer of (decoded d p) ≡ got (of (clipped d v))) × (at p ≡ clipped d v)
  -- what was read is shown by the struct, and is written as it came, the ignored bits zero
  pub back : (p : List ℕ) → Octets p → (x : A) (room : ℕ) → map_answer of (decoded d p) ≡ got x → length p ≤ room
      → (x ≡ of (at p)) × (encoded d (at p) room ≡ got (cleared d p))
