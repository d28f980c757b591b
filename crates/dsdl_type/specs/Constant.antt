-- RULES 17.7: the numbers that a constant of a type may have.
use Rattle.std.specs.Prelude.{Bool, false, cond, ◌&&◌, ℕ, ◌-◌, ◌^◌, leb, ltb, eqb}
use Rattle.std.proofs.Math.Option.{Option, none, some}
use Rattle.dsdl_number.specs.Number.{Number, whole_part, is_whole}
use Rattle.dsdl_type.specs.declared.base.Base.{Base}
use Rattle.dsdl_type.specs.declared.base.Base.TheVariants.{Boolean, Signed, Unsigned, Floating, Void, Nested, Unknown}

-- the least number that rounds to infinity
abbrev pub infinity_from : ℕ → ℕ
infinity_from bits = cond (eqb bits 16) 65520 (cond (eqb bits 32) (2 ^ 128 - 2 ^ 103) (2 ^ 1024 - 2 ^ 970))

-- whole numbers from -low to high
abbrev pub between : ℕ → ℕ → Number → Bool
between low high n = is_whole n && leb (whole_part n) (cond n.negative low high)

unfoldable pub holds : Base → Number → Bool
holds Boolean n = between 0 1 n
holds (Signed bits) n = between (2 ^ (bits - 1)) (2 ^ (bits - 1) - 1) n
holds (Unsigned bits) n = between 0 (2 ^ bits - 1) n
holds (Floating bits) n = ltb (whole_part n) (infinity_from bits)
holds (Void bits) n = false
holds Nested n = false
holds Unknown n = false

-- of an initializer's value, if it has one
abbrev pub fits : Base → Option Number → Bool
fits b none = false
fits b (some n) = holds b n
