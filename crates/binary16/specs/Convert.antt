-- RULES 9.12: a binary16 coming in and a binary32 going out, as bit patterns, and as the logic's f32. `Laws` has what makes these believable.
use Rattle.std.specs.Prelude.{ℕ, ◌+◌, ◌-◌, ◌*◌, ◌^◌, min, cond, eqb, ltb, Float}
use Rattle.std.specs.Float.{binary32}
use Rattle.std.specs.Float.Ieee.{of_bits, to_bits}
use Rattle.std.specs.Float.Ieee.Nearest.{closest}
use Rattle.binary16.specs.Format.{scale, magnitude, code_of, sign16, code16, sign32, code32}

unfoldable pub widened_code : ℕ → ℕ
unfolding magnitude code_of
widened_code c = code_of 23 (magnitude 10 c * 2 ^ 125)

-- 0x7C00 and 0x7F800000 are the infinities; what is above them is NaN
unfoldable pub widened : ℕ → ℕ
unfolding widened_code
widened h =
    let c = code16 h in
    cond (ltb 0x7C00 c) 0x7FC00000 (sign16 h * 0x80000000 + cond (eqb c 0x7C00) 0x7F800000 (widened_code c))

-- k places above the lowest, the digits of a binary16 count 2^(k - 24). The size is rounded to a multiple of that, a tie to the even one
-- (`closest`), as if exponents had no end
unfoldable pub rounded_code : ℕ → ℕ
unfolding scale magnitude
rounded_code c = let k = scale 23 c - 112 in k * 1024 + closest (magnitude 23 c) (2 ^ (125 + k))

-- 0x7BFF is 65504, the largest finite binary16
unfoldable pub narrowed : ℕ → ℕ
unfolding rounded_code
narrowed x =
    let c = code32 x in
    cond (ltb 0x7F800000 c) 0x7E00 (sign32 x * 0x8000 + cond (eqb c 0x7F800000) 0x7C00 (min 0x7BFF (rounded_code c)))

-- an f32 of the logic by its pattern: the pattern of every NaN is the one `nan`, and that of `nan` is 0x7FC00000
abbrev pub float_of : ℕ → Float
float_of h = of_bits binary32 (widened h)

abbrev pub binary16_of : Float → ℕ
binary16_of x = narrowed (to_bits binary32 x)
