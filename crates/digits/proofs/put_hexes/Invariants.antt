use Rattle.digits.specs.Digits.{hexes}
use Rattle.bits.specs.Part.{splice}
use lib.ListN.{take}
use mathlib.Core.Path.{◌≡◌}
use Rattle.digits.proofs.put_hexes.Given as goal

abbrev pub invariant-loop-i : goal.invariant-loop-i
invariant-loop-i l = l.out ≡ splice l.initial.out l.at (hexes (take l.i l.s))
