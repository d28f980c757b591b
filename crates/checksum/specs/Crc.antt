-- RULES 6.1: a cyclic redundancy check, bit by bit from its polynomial. The highest bit of each byte comes first, nothing is reflected.
use Rattle.std.specs.Prelude.{List, [], ◌∷◌, ℕ, zero, suc, ◌*◌, ◌-◌, ◌/◌, ◌%◌, ◌^◌}
use Rattle.std.specs.Int.Bits.{bit_xor}

-- the register's width and the polynomial without its highest term
pub record Crc : Type 0 where
  pub width : ℕ
  pub polynomial : ℕ

-- one place up; the polynomial once more for the bit that leaves at the top
unfoldable pub shift : Crc → ℕ → ℕ
shift k c = bit_xor (c * 2 % 2 ^ k.width) (c / 2 ^ (k.width - 1) % 2 * k.polynomial)

unfoldable pub shifts : Crc → ℕ → ℕ → ℕ
shifts k zero c = c
shifts k (suc n) c = shifts k n (shift k c)

-- a byte comes in at the top, and eight places go up
unfoldable pub crc_byte : Crc → ℕ → ℕ → ℕ
crc_byte k c b = shifts k 8 (bit_xor c (b * 2 ^ (k.width - 8)))

-- the register c after bytes
unfoldable pub crc_over : Crc → ℕ → List ℕ → ℕ
crc_over k c [] = c
crc_over k c (b ∷ bs) = crc_over k (crc_byte k c b) bs
