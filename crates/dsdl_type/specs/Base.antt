-- RULES 17.3: the base of a type.
use Rattle.std.specs.Prelude.{Bool, true, false, not, cond, ◌&&◌, ◌||◌, List, ℕ, leb, eqb, length, take, drop}
use Rattle.dsdl_text.specs.Text.{chars, same, first}
use Rattle.dsdl_text.specs.Class.{is_in, run, all, within}
use Rattle.dsdl_text.specs.Names.{is_dotted, has_dot, name_max}
use Rattle.dsdl_text.specs.declared.class.Class.TheVariants.{Unbracketed, Letter, Positive, Decimal}
use Rattle.dsdl_number.specs.Integer.{value}
use Rattle.dsdl_type.specs.declared.base.Base.{Base}
use Rattle.dsdl_type.specs.declared.base.Base.TheVariants.{Boolean, Signed, Unsigned, Floating, Void, Nested, Unknown}

-- a type word up to its size, and its size
abbrev pub base_text : List ℕ → List ℕ
base_text w = take (run Unbracketed w) w

abbrev pub size_text : List ℕ → List ℕ
size_text w = drop (run Unbracketed w) w

-- the number of bits behind a type's letters: one or two digits with no zero in front; else 0
abbrev pub bits_of : List ℕ → ℕ
bits_of l = cond (is_in Positive (first l) && (all Decimal l && leb (length l) 2)) (value 10 l) 0

-- the type of these letters and bits, if there is one
abbrev pub primitive : List ℕ → ℕ → Base → Base
primitive letters bits other =
    cond (same letters (chars "int") && within 2 64 bits) (Signed bits)
    (cond (same letters (chars "uint") && within 2 64 bits) (Unsigned bits)
    (cond (same letters (chars "float") && (eqb bits 16 || (eqb bits 32 || eqb bits 64))) (Floating bits)
    (cond (same letters (chars "void") && within 1 64 bits) (Void bits) other)))

-- a dotted name; with a dot it is a full name
abbrev pub nested : List ℕ → Base
nested l = cond (is_dotted l && (not (has_dot l) || leb (length l) name_max)) Nested Unknown

unfoldable pub base_of : List ℕ → Base
base_of l = cond (same l (chars "bool")) Boolean (primitive (take (run Letter l) l) (bits_of (drop (run Letter l) l)) (nested l))

-- a primitive type that is not void
abbrev pub is_primitive : Base → Bool
is_primitive Boolean = true
is_primitive (Signed n) = true
is_primitive (Unsigned n) = true
is_primitive (Floating n) = true
is_primitive (Void n) = false
is_primitive Nested = false
is_primitive Unknown = false

abbrev pub is_nested : Base → Bool
is_nested Boolean = false
is_nested (Signed n) = false
is_nested (Unsigned n) = false
is_nested (Floating n) = false
is_nested (Void n) = false
is_nested Nested = true
is_nested Unknown = false

abbrev pub is_void : Base → Bool
is_void Boolean = false
is_void (Signed n) = false
is_void (Unsigned n) = false
is_void (Floating n) = false
is_void (Void n) = true
is_void Nested = false
is_void Unknown = false
