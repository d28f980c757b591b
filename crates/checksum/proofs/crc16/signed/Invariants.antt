use mathlib.Core.Path.{◌≡◌}
use Prim.Native.Nat.{◌-◌}
use Rattle.checksum.specs.Crc.{crc_over}
use Rattle.checksum.specs.Crc16.{ccitt}
use Rattle.bits.specs.Little.{le_bytes}
use Rattle.checksum.proofs.crc16.signed.Given as goal

abbrev pub invariant-loop : goal.invariant-loop
invariant-loop l = crc_over ccitt l.r (le_bytes (8 - l.counter) l.x) ≡ crc_over ccitt 0xFFFF (le_bytes 8 l.signature)
