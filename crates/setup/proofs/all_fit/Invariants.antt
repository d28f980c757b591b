use mathlib.Core.Path.{◌≡◌}
use Prim.Native.Nat.{◌-◌}
use Rattle.rules.specs.Setup.{all_fit}
use Rattle.setup.specs.Setup.{record_at}
use Rattle.bits.specs.Tabulate.{tabulate}
use Rattle.setup.proofs.all_fit.Given as goal

abbrev pub invariant-loop-j : goal.invariant-loop-j
invariant-loop-j l = all_fit (tabulate (record_at l.records) l.j (l.n - l.j)) ≡ all_fit (tabulate (record_at l.records) 0 l.n)
