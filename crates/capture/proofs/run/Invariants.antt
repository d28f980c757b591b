use Rattle.capture.proofs.run.Given as goal
use Prim.Native.Nat.{◌≤◌}

abbrev pub invariant-loop-reads : goal.invariant-loop-reads
invariant-loop-reads l = l.s.kept ≤ 32768
