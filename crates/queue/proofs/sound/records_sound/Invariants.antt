use mathlib.Core.Path.{◌≡◌}
use mathlib.Core.Bool.{true}
use Prim.Native.Nat.{◌≤◌}
use Rattle.queue.specs.Layout.{queued}
use Rattle.queue.specs.Queue.{in_order}
use Rattle.queue.proofs.Soundness.{Below}
use Rattle.queue.proofs.sound.records_sound.Given as goal

abbrev pub invariant-loop-i : goal.invariant-loop-i
invariant-loop-i l = (l.i ≤ l.n) × ((in_order (queued l.queue l.i) ≡ true) × Below l.last (queued l.queue l.i))
