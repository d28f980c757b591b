use mathlib.Core.Path.{◌≡◌}
use Prim.Native.Nat.{◌≤◌, ◌+◌, ◌-◌}
use lib.ListN.{length}
use Rattle.codec_text.proofs.signed.read.Given as goal

abbrev pub invariant-loop-p : goal.invariant-loop-p
invariant-loop-p l = ((l.p ≤ length l.s + 1) × (l.n ≤ l.p)) × (length l.places ≡ length l.initial.places)

abbrev pub decreases-loop-p : goal.decreases-loop-p
decreases-loop-p l = length l.s + 1 - l.p
