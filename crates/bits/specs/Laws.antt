-- RULES 9.1 to 9.3: the laws that the layers above cite, of definitions alone; `laws.rt` has a function for each record, whose contract it is.
use Rattle.std.specs.Prelude.{◌≡◌, Bool, List, ◌++◌, ℕ, ◌+◌, ◌*◌, ◌^◌, ◌≤◌, ◌<◌, length, take, drop}
use Rattle.bits.specs.Little.{le, le_bytes}
use Rattle.bits.specs.Order.{unpack, to_bits, from_bits, store}
use Rattle.bits.specs.Width.{width_of}

-- one field, at any width and any place
pub record FieldLaws : Type 0 where
  -- reading what was written gives it back
  pub read_back : (m : List ℕ) (at w v : ℕ) → at + w ≤ length m * 8 → v < 2 ^ w → from_bits w (drop at (unpack (store m at (to_bits w v)))) ≡ v
  -- bits before and after the field stay, and so does the number of bytes
  pub before : (m : List ℕ) (at : ℕ) (bs : List Bool) → at + length bs ≤ length m * 8 → take at (unpack (store m at bs)) ≡ take at (unpack m)
  pub behind : (m : List ℕ) (at : ℕ) (bs : List Bool) → at + length bs ≤ length m * 8 → drop (at + length bs) (unpack (store m at bs)) ≡ drop (at + length bs) (unpack m)
  pub as_long : (m : List ℕ) (at : ℕ) (bs : List Bool) → length (store m at bs) ≡ length m
  -- fields written one after the other are the concatenation of their bits
  pub joined : (m : List ℕ) (at : ℕ) (xs ys : List Bool) → at + length xs ≤ length m * 8 → store (store m at xs) (at + length xs) ys ≡ store m at (xs ++ ys)

-- w bits hold m, and no fewer do
pub record Fewest (m w : ℕ) : Type 0 where
  pub holds : m < 2 ^ w
  pub least : (k : ℕ) → m < 2 ^ k → w ≤ k

abbrev pub WidthLaw : Type 0
WidthLaw = (m : ℕ) → Fewest m (width_of m)

-- a number's bytes give it back
abbrev pub LittleLaw : Type 0
LittleLaw = (n v : ℕ) → v < 256 ^ n → le (le_bytes n v) ≡ v
