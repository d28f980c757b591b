use mathlib.Core.Path.{◌≡◌}
use Prim.Native.Nat.{◌+◌, ◌-◌}
use Rattle.rules.specs.Setup.{unlike}
use Rattle.setup.specs.Setup.{record_at}
use Rattle.bits.specs.Tabulate.{tabulate}
use Rattle.setup.proofs.key_is_new.Given as goal

abbrev pub invariant-loop-i : goal.invariant-loop-i
invariant-loop-i l = unlike (record_at l.records l.j) (tabulate (record_at l.records) l.i (l.n - l.i)) ≡ unlike (record_at l.records l.j) (tabulate (record_at l.records) (l.j + 1) (l.n - (l.j + 1)))
