use mathlib.Core.Path.{◌≡◌}
use Rattle.queue.specs.Layout.{given}
use Rattle.queue.specs.Queue.{id_of}
use Rattle.queue.specs.inside.Run.{Run}
use Rattle.queue.proofs.record.run_end.Given as goal

abbrev pub invariant-loop-e : goal.invariant-loop-e
invariant-loop-e l = (l.own ≡ id_of (given l.records l.i)) × Run (given l.records) l.i l.e l.k
