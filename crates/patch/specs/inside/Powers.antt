-- How a correction is worked out: by tables of powers of x, and products with them.
use Rattle.std.specs.Prelude.{◌≡◌, List, ℕ, zero, suc, ◌+◌, ◌*◌, ◌/◌, ◌%◌, ◌<◌, get_or}
use Rattle.std.specs.Int.Bits.{bit_xor}
use Rattle.checksum.specs.Crc.{shift, shifts}
use Rattle.checksum.specs.Crc16.{ccitt}

-- a power of x is 1 moved up; here by a fixed number of places more at each entry
pub record IsPowers (from step count : ℕ) (t : List ℕ) : Type 0 where
  pub entry : (i : ℕ) → i < count → get_or t i 0 ≡ shifts ccitt (from + step * i) 1

-- the product of v, of which the lowest k bits count, and w: bit by bit, the highest first
unfoldable pub product_of : ℕ → ℕ → ℕ → ℕ
product_of zero v w = 0
product_of (suc k) v w = bit_xor (shift ccitt (product_of k (v / 2) w)) (v % 2 * w)
