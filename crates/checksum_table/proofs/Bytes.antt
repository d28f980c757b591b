-- One entry more of the table.
use mathlib.Core.Path.{◌≡◌}
use mathlib.Core.List.{List}
use Prim.Native.Nat.{ℕ, ◌<◌}
use lib.ListN.{get_or}
use Rattle.checksum.specs.Crc.{crc_byte}
use Rattle.checksum.specs.Crc16.{ccitt}

-- the entries below i are right
abbrev pub Entries : List ℕ → ℕ → Type 0
Entries t i = (j : ℕ) → j < i → get_or t j 0 ≡ crc_byte ccitt 0 j
