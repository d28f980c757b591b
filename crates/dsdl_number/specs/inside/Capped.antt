-- Numbers in 64 bits: what one that is too large is cut to.
use Rattle.std.specs.Prelude.{ℕ}

abbrev pub cap : ℕ
cap = 0x800000000000000
