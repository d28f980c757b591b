use mathlib.Core.Path.{◌≡◌}
use lib.ListN.{drop}
use Rattle.checksum.specs.Crc.{crc_over}
use Rattle.checksum.specs.Signature.{we}
use Rattle.checksum.proofs.crc64.steps.Given as goal

abbrev pub invariant-loop-b : goal.invariant-loop-b
invariant-loop-b l = crc_over we l.r (drop l.b-index l.s) ≡ crc_over we l.c l.s
