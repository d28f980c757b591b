use mathlib.Core.Path.{◌≡◌}
use lib.ListN.{take}
use Rattle.bits.specs.Tabulate.{tabulate}
use Rattle.keys.specs.inside.Keys.{word_at}
use Rattle.keys.proofs.load.Given as goal

abbrev pub invariant-loop-i : goal.invariant-loop-i
invariant-loop-i l = take l.i l.table ≡ tabulate (word_at l.s l.at) 0 l.i
