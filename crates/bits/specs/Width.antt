-- RULES 9.3: the width of a list's length field, which is the fewest bits that hold the largest length.
use Rattle.std.specs.Prelude.{ℕ, zero, suc, ◌/◌}

unfoldable pub width_in : ℕ → ℕ → ℕ
width_in zero m = 0
width_in (suc d) zero = 0
width_in (suc d) (suc m) = suc (width_in d (suc m / 2))

-- how often m can be halved; m itself is more than enough to count down from
unfoldable pub width_of : ℕ → ℕ
width_of m = width_in m m
