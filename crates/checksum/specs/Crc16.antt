-- RULES 6.2: the transfer checksum.
use Rattle.std.specs.Prelude.{List, ◌++◌, ℕ}
use Rattle.checksum.specs.Crc.{Crc, crc_over}
use Rattle.bits.specs.Little.{le_bytes}

-- CRC-16-CCITT-FALSE, but for its start value
abbrev pub ccitt : Crc
ccitt = record { width = 16; polynomial = 0x1021 }

-- from 0xFFFF over the signature's eight bytes, lowest first, and the payload
unfoldable pub checksum : ℕ → List ℕ → ℕ
checksum signature p = crc_over ccitt 0xFFFF (le_bytes 8 signature ++ p)
