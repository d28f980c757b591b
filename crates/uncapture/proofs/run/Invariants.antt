use Rattle.std.proofs.Common.{◌≡◌, length}
use Rattle.uncapture.proofs.run.Given as goal

abbrev pub invariant-loop-s : goal.invariant-loop-s
invariant-loop-s l = (length l.block ≡ length l.initial.block) × (length l.out ≡ length l.initial.out)

abbrev pub decreases-loop-s : goal.decreases-loop-s
decreases-loop-s l = l.s.left
