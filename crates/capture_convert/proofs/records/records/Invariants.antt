use Prim.Native.Nat.{◌-◌}
use lib.ListN.{length}
use Rattle.capture_convert.proofs.Walking.{Storing}
use Rattle.capture_convert.proofs.records.records.Given as goal

abbrev pub invariant-loop-end : goal.invariant-loop-end
invariant-loop-end l = Storing l.block l.initial.out l.out l.count l.from l.end

abbrev pub decreases-loop-end : goal.decreases-loop-end
decreases-loop-end l = length l.block - l.from
