-- What the code that reads and writes one value goes by.
use Rattle.std.specs.Prelude.{Bool, true, ◌&&◌, List, [], ◌++◌, ℕ, ◌-◌, ltb, leb, length}
use Rattle.bits.specs.Order.{to_bits}
use Rattle.bits.specs.Width.{width_of}
use Rattle.shape.specs.Answer.{Answer, got, refuse_if}
use Rattle.shape.specs.Cast.{unsigned, signed, saturated, cast_bits}
use Rattle.shape.specs.Shape.{tag_width, item_bits}
use Rattle.protocol_param.specs.Value.{tag_at, size_at}
use Rattle.protocol_param.specs.declared.value.Value.{Value}
use Rattle.protocol_param.specs.declared.value.Value.TheVariants.{Empty, Integer, Real, Boolean, Text, Unknown}

-- the bytes that the value at the front of s takes, or why it is refused
unfoldable pub sized : ℕ → List ℕ → Answer ℕ
sized n s =
    refuse_if (ltb (length s) 1) 15
    (refuse_if (leb n (tag_at n s)) 27
    (refuse_if (ltb (length s) (size_at n s)) 15
    (refuse_if (ltb 130 (size_at n s)) 16 (got (size_at n s)))))

-- the tag of a value
abbrev pub tag_of : Value → ℕ
tag_of Empty = 0
tag_of (Integer z) = 1
tag_of (Real x) = 2
tag_of (Boolean z) = 3
tag_of Text = 4
tag_of Unknown = 5

-- the bits of a text after its length
abbrev pub text_bits : List ℕ → List Bool
text_bits text = to_bits (width_of 128) (length text) ++ item_bits 8 text

-- the bits of a value's case
abbrev pub content_bits : Value → List ℕ → List Bool
content_bits Empty text = []
content_bits (Integer z) text = to_bits 64 (cast_bits signed saturated 64 z)
content_bits (Real x) text = to_bits 32 x
content_bits (Boolean z) text = to_bits 8 (cast_bits unsigned saturated 8 z)
content_bits Text text = text_bits text
content_bits Unknown text = []

-- all four values of GetSet's response are of cases that their unions have
abbrev pub all_known : Value → Value → Value → Value → Bool
all_known v default max min = ltb (tag_of v) 5 && (ltb (tag_of default) 5 && (ltb (tag_of max) 3 && ltb (tag_of min) 3))

abbrev pub text_fits : Value → List ℕ → Bool
text_fits Empty text = true
text_fits (Integer z) text = true
text_fits (Real x) text = true
text_fits (Boolean z) text = true
text_fits Text text = leb (length text) 128
text_fits Unknown text = true

-- the bits of a union of n cases, and these after the padding that brings the tag to the end of its byte
abbrev pub union_bits : ℕ → Value → List ℕ → List Bool
union_bits n v text = to_bits (tag_width n) (tag_of v) ++ content_bits v text

abbrev pub padded_bits : ℕ → Value → List ℕ → List Bool
padded_bits n v text = to_bits (8 - tag_width n) 0 ++ union_bits n v text

-- the four values of GetSet's response
abbrev pub value_bits : Value → List ℕ → Value → List ℕ → Value → Value → List Bool
value_bits v text default other max min = padded_bits 5 v text ++ (padded_bits 5 default other ++ (padded_bits 3 max [] ++ padded_bits 3 min []))
