-- The bases of literals, and those of types.
use Rattle.std.specs.Prelude.{Bool, true, ◌||◌, ℕ, eqb}
use Rattle.dsdl_text.specs.Class.{within}
use Rattle.dsdl_type.specs.declared.base.Base.{Base}
use Rattle.dsdl_type.specs.declared.base.Base.TheVariants.{Boolean, Signed, Unsigned, Floating, Void, Nested, Unknown}

abbrev pub is_base : ℕ → Bool
is_base b = eqb b 10 || (eqb b 16 || (eqb b 8 || eqb b 2))

-- an integer type has a number of bits that there is, as the base of every type word has
abbrev pub is_sized : Base → Bool
is_sized Boolean = true
is_sized (Signed n) = within 2 64 n
is_sized (Unsigned n) = within 2 64 n
is_sized (Floating n) = true
is_sized (Void n) = true
is_sized Nested = true
is_sized Unknown = true
