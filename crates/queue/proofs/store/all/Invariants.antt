use mathlib.Core.Path.{◌≡◌}
use Prim.Native.Nat.{◌-◌, ◌≤◌}
use lib.ListN.{length}
use Rattle.bits.specs.Part.{splice}
use Rattle.bits.specs.Tabulate.{tabulate}
use Rattle.queue.specs.Layout.{records_at, queued, given, stored}
use Rattle.queue.specs.Queue.{put_all}
use Rattle.queue.proofs.store.all.Given as goal

abbrev pub invariant-loop-i : goal.invariant-loop-i
invariant-loop-i l =
    (l.i ≤ l.k) × ((length l.queue ≡ length l.initial.queue) × (l.queue ≡ splice l.initial.queue records_at (stored (put_all (queued l.initial.queue l.n) (tabulate (given l.records) 0 l.i)))))

abbrev pub decreases-loop-i : goal.decreases-loop-i
decreases-loop-i l = l.k - l.i
