use Rattle.digits.specs.Digits.{count_of}
use Prim.Native.Nat.{◌+◌, ◌≤◌}
use mathlib.Core.Path.{◌≡◌}
use Rattle.digits.proofs.count.Given as goal

abbrev pub invariant-loop-x : goal.invariant-loop-x
invariant-loop-x l = (l.k + count_of l.x ≡ 1 + count_of l.v) × (count_of l.v ≤ 20)

abbrev pub decreases-loop-x : goal.decreases-loop-x
decreases-loop-x l = l.x
