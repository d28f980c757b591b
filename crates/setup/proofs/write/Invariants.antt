use mathlib.Core.Path.{◌≡◌}
use Prim.Native.Nat.{◌≤◌}
use lib.ListN.{length, drop}
use Rattle.setup.specs.Setup.{record_at}
use Rattle.setup.proofs.Laid.{laid_out}
use Rattle.bits.specs.Tabulate.{tabulate}
use Rattle.state.specs.Layout.{size}
use Rattle.setup.proofs.write.Given as goal

abbrev pub invariant-loop-j : goal.invariant-loop-j
invariant-loop-j l = ((l.j ≤ l.n) × (length l.state ≡ length l.initial.state)) × (l.state ≡ laid_out l.own l.n (tabulate (record_at l.records) 0 l.j) (drop size l.initial.state))
