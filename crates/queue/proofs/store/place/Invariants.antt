use mathlib.Core.Path.{◌≡◌}
use Prim.Native.Nat.{◌≤◌}
use Rattle.queue.specs.Layout.{queued}
use Rattle.queue.specs.inside.Run.{behind}
use Rattle.queue.proofs.store.place.Given as goal

abbrev pub invariant-loop-p : goal.invariant-loop-p
invariant-loop-p l = (l.p ≤ l.n) × (behind l.id (queued l.queue l.p) ≡ behind l.id (queued l.queue l.n))
