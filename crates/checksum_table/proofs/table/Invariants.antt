use Rattle.checksum_table.proofs.Bytes.{Entries}
use Rattle.checksum_table.proofs.table.Given as goal

abbrev pub invariant-loop-i : goal.invariant-loop-i
invariant-loop-i l = Entries l.e-items l.i
