use mathlib.Core.Path.{◌≡◌}
use Prim.Native.Nat.{◌-◌}
use Rattle.checksum.specs.Crc.{shifts, crc_byte}
use Rattle.checksum.specs.Signature.{we}
use Rattle.checksum.proofs.crc64.step.Given as goal

abbrev pub invariant-loop : goal.invariant-loop
invariant-loop l = shifts we (8 - l.counter) l.r ≡ crc_byte we l.c l.b
