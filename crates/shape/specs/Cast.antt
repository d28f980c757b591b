-- RULES 9.13, 9.14: what the w bits of a field stand for, and the bits that a number is written as, one that they do not hold too.
use Rattle.std.specs.Prelude.{Bool, false, ℕ, suc, ◌-◌, ◌%◌, ◌^◌, min, ltb, ℤ, pos, negsuc}
use Rattle.shape.specs.Signed.{signed_of, in_range}

pub data Sign : Type 0 where
  unsigned : Sign
  signed : Sign

-- what becomes of a number that the field does not hold
pub data Cast : Type 0 where
  saturated : Cast  -- the nearest end of the range
  truncated : Cast  -- its low bits

-- the number that w bits stand for
abbrev pub value_of : Sign → ℕ → ℕ → ℤ
value_of unsigned w n = pos n
value_of signed w n = signed_of w n

-- the numbers that w bits hold; `pos n` is n, `negsuc n` is -(n + 1)
abbrev pub holds : Sign → ℕ → ℤ → Bool
holds unsigned w (pos n) = ltb n (2 ^ w)
holds unsigned w (negsuc n) = false
holds signed w z = in_range w z

-- the nearest of these
unfoldable pub nearest : Sign → ℕ → ℤ → ℤ
nearest unsigned w (pos n) = pos (min n (2 ^ w - 1))
nearest unsigned w (negsuc n) = pos 0
nearest signed w (pos n) = pos (min n (2 ^ (w - 1) - 1))
nearest signed w (negsuc n) = negsuc (min n (2 ^ (w - 1) - 1))

-- the w low bits of a number, in two's complement
unfoldable pub low_bits : ℕ → ℤ → ℕ
low_bits w (pos n) = n % 2 ^ w
low_bits w (negsuc n) = 2 ^ w - suc (n % 2 ^ w)

-- the w bits that a number is written as
abbrev pub cast_bits : Sign → Cast → ℕ → ℤ → ℕ
cast_bits s saturated w z = low_bits w (nearest s w z)
cast_bits s truncated w z = low_bits w z

-- and what is read of them
abbrev pub clip : Sign → Cast → ℕ → ℤ → ℤ
clip s c w z = value_of s w (cast_bits s c w z)
