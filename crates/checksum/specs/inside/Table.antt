-- RULES 6.4: the table of the transfer checksum.
use Rattle.std.specs.Prelude.{◌≡◌, List, ℕ, ◌*◌, ◌<◌, get_or}
use Rattle.checksum.specs.Crc.{shifts}
use Rattle.checksum.specs.Crc16.{ccitt}

-- the rule of the table: entry i is what four places up make of i at the top of the register
pub record IsTable (t : List ℕ) : Type 0 where
  pub entry : (i : ℕ) → i < 16 → get_or t i 0 ≡ shifts ccitt 4 (i * 4096)
