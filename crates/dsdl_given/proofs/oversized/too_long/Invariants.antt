use Rattle.dsdl_given.specs.Given.{length_at, lengths_in, too_long}
use Rattle.bits.specs.Tabulate.{tabulate}
use lib.ListN.{length}
use Prim.Native.Nat.{◌*◌, ◌-◌, ◌/◌}
use mathlib.Core.Path.{◌≡◌}
use Rattle.dsdl_given.proofs.oversized.too_long.Given as goal

abbrev pub invariant-loop-i : goal.invariant-loop-i
invariant-loop-i l = too_long l.left (tabulate (length_at l.lengths) (l.i * 2) (length l.lengths / 8 * 2 - l.i * 2)) ≡ too_long l.size (lengths_in l.lengths)
