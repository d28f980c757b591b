use mathlib.Core.Path.{◌≡◌}
use lib.ListN.{drop}
use Rattle.checksum.specs.Crc.{crc_over}
use Rattle.checksum.specs.Crc16.{ccitt}
use Rattle.checksum_table.proofs.steps.Given as goal

abbrev pub invariant-loop-b : goal.invariant-loop-b
invariant-loop-b l = crc_over ccitt l.r (drop l.b-index l.s) ≡ crc_over ccitt l.c l.s
