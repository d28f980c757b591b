use mathlib.Core.Path.{◌≡◌}
use Prim.Native.Nat.{◌-◌, ◌≤◌}
use Rattle.bits.specs.Tabulate.{tabulate}
use Rattle.queue.specs.Layout.{given}
use Rattle.queue.specs.Queue.{first_fault}
use Rattle.queue.proofs.record.first_fault.Given as goal

abbrev pub invariant-loop-i : goal.invariant-loop-i
invariant-loop-i l = (l.i ≤ l.k) × (first_fault (tabulate (given l.records) l.i (l.k - l.i)) ≡ first_fault (tabulate (given l.records) 0 l.k))
