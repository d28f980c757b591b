-- RULES 9.12: what a bit pattern of binary16 or binary32 stands for, as a whole number. m is the number of digits after the leading one, 10 or
-- 23. c is a pattern without its sign: the exponent's field above, the m digits below. A field of 0 has no leading digit, and otherwise
-- counts as a field of 1.
use Rattle.std.specs.Prelude.{ℕ, suc, ◌+◌, ◌-◌, ◌*◌, ◌/◌, ◌%◌, ◌^◌, min, cond, eqb}
use Rattle.std.specs.Float.Ieee.{size}

-- the digits, with the leading one
unfoldable pub significand : ℕ → ℕ → ℕ
significand m c = min (c / 2 ^ m) 1 * 2 ^ m + c % 2 ^ m

-- by how many places they stand above the format's lowest
unfoldable pub scale : ℕ → ℕ → ℕ
scale m c = c / 2 ^ m - 1

-- the size, in units of the format's smallest: 2^-24 at m = 10, 2^-149 at m = 23
unfoldable pub magnitude : ℕ → ℕ → ℕ
unfolding significand scale
magnitude m c = significand m c * 2 ^ scale m c

-- the pattern of a size of at most m + 1 digits and zeros after them (`size n`: how many digits n has). The leading digit adds one to the field
unfoldable pub code_of : ℕ → ℕ → ℕ
code_of m n = let k = size n - suc m in k * 2 ^ m + n / 2 ^ k

-- a finite number: a sign, 0 or 1, and a whole number of 2^-149
pub record Number : Type 0 where
  pub sign : ℕ
  pub size : ℕ

abbrev pub sign16 : ℕ → ℕ
sign16 h = h / 0x8000

abbrev pub code16 : ℕ → ℕ
code16 h = h % 0x8000

abbrev pub sign32 : ℕ → ℕ
sign32 x = x / 0x80000000

abbrev pub code32 : ℕ → ℕ
code32 x = x % 0x80000000

-- 2^-24 is 2^125 of 2^-149
unfoldable pub value16 : ℕ → Number
unfolding magnitude
value16 h = record { sign = sign16 h; size = magnitude 10 (code16 h) * 2 ^ 125 }

unfoldable pub value32 : ℕ → Number
unfolding magnitude
value32 x = record { sign = sign32 x; size = magnitude 23 (code32 x) }

-- how far apart two sizes are, and two numbers
abbrev pub between : ℕ → ℕ → ℕ
between a b = (a - b) + (b - a)

unfoldable pub apart : Number → Number → ℕ
apart x y = cond (eqb x.sign y.sign) (between x.size y.size) (x.size + y.size)
