use mathlib.Core.Path.{◌≡◌}
use mathlib.Core.Bool.{true}
use Prim.Native.Nat.{◌+◌, ◌*◌, ◌-◌, ◌/◌, ◌%◌, ◌≤◌}
use lib.ListN.{length, drop}
use Rattle.bits.specs.Part.{splice}
use Rattle.rules.specs.Sending.{records_of}
use Rattle.sender.proofs.Pieces.{onward}
use Rattle.sender.proofs.frames.others.Given as goal

abbrev pub invariant-loop-k : goal.invariant-loop-k
invariant-loop-k l = ((l.k + 2) % 7 ≡ 0) × ((l.at ≡ (l.k + 2) / 7 * 13) × ((l.k ≤ length l.payload + 6) × ((length l.out ≡ length l.initial.out) × (splice l.out l.at (records_of l.id (onward l.toggle l.transfer (drop l.k l.payload))) ≡ splice l.initial.out 13 (records_of l.id (onward true l.transfer (drop 5 l.payload)))))))

abbrev pub decreases-loop-k : goal.decreases-loop-k
decreases-loop-k l = length l.payload - l.k
