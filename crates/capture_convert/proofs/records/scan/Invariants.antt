use Prim.Native.Nat.{◌-◌}
use lib.ListN.{length}
use Rattle.capture_convert.proofs.Walking.{Walk}
use Rattle.capture_convert.proofs.records.scan.Given as goal

abbrev pub invariant-loop-end : goal.invariant-loop-end
invariant-loop-end l = Walk l.log l.count l.from l.end

abbrev pub decreases-loop-end : goal.decreases-loop-end
decreases-loop-end l = length l.log - l.from
