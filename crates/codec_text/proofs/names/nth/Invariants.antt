use Prim.Native.Nat.{◌≤◌, ◌-◌}
use lib.ListN.{length}
use Rattle.codec_text.proofs.names.nth.Given as goal

abbrev pub invariant-loop-p : goal.invariant-loop-p
invariant-loop-p l = l.p ≤ length l.names

abbrev pub decreases-loop-p : goal.decreases-loop-p
decreases-loop-p l = length l.names - l.p
