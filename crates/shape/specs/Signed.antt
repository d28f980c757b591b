-- RULES 9.13: signed numbers, in two's complement. A description has the w bits as a number; the signed number is a view of it.
use Rattle.std.specs.Prelude.{Bool, true, false, ℕ, suc, ◌-◌, ◌^◌, ltb, ℤ, pos, negsuc}

-- `pos n` is n, `negsuc n` is -(n + 1)
abbrev pub signed_if : Bool → ℕ → ℕ → ℤ
signed_if true w n = pos n
signed_if false w n = negsuc (2 ^ w - suc n)

-- the number that w bits stand for: from 2^(w - 1) on, 2^w less
unfoldable pub signed_of : ℕ → ℕ → ℤ
signed_of w n = signed_if (ltb n (2 ^ (w - 1))) w n

-- the numbers that w bits hold: -2^(w - 1) and up, below 2^(w - 1)
unfoldable pub in_range : ℕ → ℤ → Bool
in_range w (pos n) = ltb n (2 ^ (w - 1))
in_range w (negsuc n) = ltb n (2 ^ (w - 1))
