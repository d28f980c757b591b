-- RULES 6.4, at eight bits: the table of 256 entries.
use Rattle.std.specs.Prelude.{◌≡◌, List, ℕ, ◌<◌, get_or}
use Rattle.checksum.specs.Crc.{crc_byte}
use Rattle.checksum.specs.Crc16.{ccitt}

-- entry i is what a byte i makes of a register of 0
pub record IsTable (t : List ℕ) : Type 0 where
  pub entry : (i : ℕ) → i < 256 → get_or t i 0 ≡ crc_byte ccitt 0 i
