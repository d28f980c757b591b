-- RULES 10.11: the value of a parameter. Value is a union of five cases, NumericValue of the first three of them.
use Rattle.std.specs.Prelude.{Bool, true, false, List, [], ℕ, zero, suc, ◌+◌, ◌-◌, ltb, ℤ, pos, negsuc, drop}
use Rattle.bits.specs.Order.{unpack, from_bits}
use Rattle.bits.specs.Part.{span}
use Rattle.bits.specs.Width.{width_of}
use Rattle.shape.specs.Cast.{signed, saturated}
use Rattle.shape.specs.Signed.{signed_of}
use Rattle.shape.specs.Shape.{Shape, num, raw, uint, list, choice, tag_width, Values}
use Rattle.protocol_param.specs.declared.value.Value.{Value}
use Rattle.protocol_param.specs.declared.value.Value.TheVariants.{Empty, Integer, Real, Boolean, Text, Unknown}

-- the fields of the case with that tag, and what follows the union
abbrev pub value_then : Shape → ℕ → Shape
value_then d zero = d
value_then d (suc zero) = num signed saturated 64 d
value_then d (suc (suc zero)) = raw 32 d
value_then d (suc (suc (suc zero))) = uint 8 d
value_then d (suc (suc (suc (suc zero)))) = list 8 128 d
value_then d (suc (suc (suc (suc (suc t))))) = d

-- a union of the first n cases: 5 for Value, 3 for NumericValue
abbrev pub union : ℕ → Shape → Shape
union n d = choice n (value_then d)

-- ── to write ──

-- the values of a Value, with the text that is beside it; of another case than Text, that text is not there
abbrev pub value_values : Value → List ℕ → (n : ℕ) (d : Shape) → Values d → Values (union n d)
value_values Empty text n d rest = (0, rest)
value_values (Integer z) text n d rest = (1, (z, rest))
value_values (Real x) text n d rest = (2, (x, rest))
value_values (Boolean z) text n d rest = (3, (z, rest))
value_values Text text n d rest = (4, (text, rest))
value_values Unknown text n d rest = (5, rest)

-- the value with that tag, of what is given for each case
abbrev pub value_of_tag : ℤ → ℤ → ℕ → ℤ → Value
value_of_tag (pos zero) z x b = Empty
value_of_tag (pos (suc zero)) z x b = Integer z
value_of_tag (pos (suc (suc zero))) z x b = Real x
value_of_tag (pos (suc (suc (suc zero)))) z x b = Boolean b
value_of_tag (pos (suc (suc (suc (suc zero))))) z x b = Text
value_of_tag (pos (suc (suc (suc (suc (suc t)))))) z x b = Unknown
value_of_tag (negsuc t) z x b = Unknown

-- ── read ──

-- what a reader's struct shows of a union's values: the Value, its text, and the values of what follows
pub record Case (d : Shape) : Type 0 where
  pub value : Value
  pub text : List ℕ
  pub rest : Values d

abbrev pub case_of : (t : ℕ) (d : Shape) → Values (value_then d t) → Case d
case_of zero d v = record { value = Empty; text = []; rest = v }
case_of (suc zero) d v = record { value = Integer v.0; text = []; rest = v.1 }
case_of (suc (suc zero)) d v = record { value = Real v.0; text = []; rest = v.1 }
case_of (suc (suc (suc zero))) d v = record { value = Boolean v.0; text = []; rest = v.1 }
case_of (suc (suc (suc (suc zero)))) d v = record { value = Text; text = v.0; rest = v.1 }
case_of (suc (suc (suc (suc (suc t))))) d v = record { value = Unknown; text = []; rest = v }

-- the bytes that a value takes, with that of its tag, of a text of so many bytes
abbrev pub size_of : Value → ℕ → ℕ
size_of Empty n = 1
size_of (Integer z) n = 9
size_of (Real x) n = 5
size_of (Boolean z) n = 2
size_of Text n = 2 + n
size_of Unknown n = 1

-- ── RULES 9.9: what stands in a payload, s being the part of it from the byte on whose lowest bits are the tag ──

unfoldable pub tag_at : ℕ → List ℕ → ℕ
tag_at n s = from_bits (tag_width n) (drop (8 - tag_width n) (unpack s))

abbrev pub case_at : ℕ → List ℕ → Value
case_at zero s = Empty
case_at (suc zero) s = Integer (signed_of 64 (from_bits 64 (unpack (drop 1 s))))
case_at (suc (suc zero)) s = Real (from_bits 32 (unpack (drop 1 s)))
case_at (suc (suc (suc zero))) s = Boolean (pos (from_bits 8 (unpack (drop 1 s))))
case_at (suc (suc (suc (suc zero)))) s = Text
case_at (suc (suc (suc (suc (suc t))))) s = Unknown

abbrev pub known_or : Bool → Value → Value
known_or true v = v
known_or false v = Unknown

unfoldable pub value_at : ℕ → List ℕ → Value
value_at n s = known_or (ltb (tag_at n s) n) (case_at (tag_at n s) s)

-- what the length field of a text says; 0 of what is no text
abbrev pub announced : Value → List ℕ → ℕ
announced Text s = from_bits (width_of 128) (unpack (drop 1 s))
announced Empty s = 0
announced (Integer z) s = 0
announced (Real x) s = 0
announced (Boolean z) s = 0
announced Unknown s = 0

unfoldable pub text_length : List ℕ → ℕ
text_length s = announced (value_at 5 s) s

abbrev pub text_in : List ℕ → List ℕ
text_in s = span s 2 (text_length s)

unfoldable pub size_at : ℕ → List ℕ → ℕ
size_at n s = size_of (value_at n s) (text_length s)

-- the values of the union, before those of what follows it
abbrev pub value_found : (n : ℕ) (d : Shape) → List ℕ → Values d → Values (union n d)
value_found n d s rest = value_values (value_at n s) (text_in s) n d rest
