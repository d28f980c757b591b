use mathlib.Core.Path.{◌≡◌}
use Prim.Native.Nat.{◌-◌}
use lib.ListN.{length}
use Rattle.log_feed.proofs.Running.{Going}
use Rattle.log_feed.proofs.lines.Given as goal

abbrev pub invariant-loop-end : goal.invariant-loop-end
invariant-loop-end l = (Going l.initial.state l.initial.c l.block (length l.initial.out) l.state l.out l.c l.from l.at l.end) × (length l.state ≡ length l.initial.state)

abbrev pub decreases-loop-end : goal.decreases-loop-end
decreases-loop-end l = length l.block - l.from
