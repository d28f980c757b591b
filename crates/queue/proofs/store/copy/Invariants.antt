use mathlib.Core.Path.{◌≡◌}
use Prim.Native.Nat.{◌+◌, ◌*◌, ◌-◌, ◌≤◌}
use lib.ListN.{length}
use Rattle.bits.specs.Part.{splice}
use Rattle.bits.specs.Tabulate.{tabulate}
use Rattle.rules.specs.Limits.{frame_record}
use Rattle.queue.specs.Layout.{records_at, given, stored}
use Rattle.queue.proofs.store.copy.Given as goal

abbrev pub invariant-loop-j : goal.invariant-loop-j
invariant-loop-j l =
    ((l.i ≤ l.j) × (l.j ≤ l.e)) × ((l.at ≡ records_at + l.p * frame_record + (l.e - l.j) * frame_record)
    × ((length l.queue ≡ length l.initial.queue) × (l.queue ≡ splice l.initial.queue (records_at + l.p * frame_record) (stored (tabulate (given l.records) l.j (l.e - l.j))))))
