use mathlib.Core.Path.{◌≡◌}
use lib.ListN.{take, drop}
use Rattle.bits.specs.Order.{unpack}
use Rattle.shape.specs.Shape.{items_of}
use Rattle.shape.proofs.items.read.Given as goal

abbrev pub invariant-loop-i : goal.invariant-loop-i
invariant-loop-i l = take l.i l.out ≡ items_of l.w l.i (drop l.at (unpack l.s))
