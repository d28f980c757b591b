-- RULES 11.2, 11.3: the signature hash and its extension.
use Rattle.std.specs.Prelude.{List, ◌++◌, ℕ}
use Rattle.std.specs.Int.Bits.{bit_xor}
use Rattle.checksum.specs.Crc.{Crc, crc_over}
use Rattle.bits.specs.Little.{le_bytes}

-- CRC-64-WE, but for its start value and the inversion of its result
abbrev pub we : Crc
we = record { width = 64; polynomial = 0x42F0E1EBA9EA3693 }

-- all 64 bits turned round
abbrev pub inverted : ℕ → ℕ
inverted c = bit_xor c 0xFFFFFFFFFFFFFFFF

-- RULES 11.2: the hash of bytes that continues the hash h; a new hash begins at 0
unfoldable pub hash_from : ℕ → List ℕ → ℕ
hash_from h bs = inverted (crc_over we (inverted h) bs)

-- RULES 11.3: h extended by a value, which is fed first, then h as it was before; each low byte first
unfoldable pub extended : ℕ → ℕ → ℕ
extended h v = hash_from h (le_bytes 8 v ++ le_bytes 8 h)
