use mathlib.Core.Path.{◌≡◌}
use lib.ListN.{length, take}
use Rattle.bits.specs.Order.{store}
use Rattle.shape.specs.Shape.{item_bits}
use Rattle.shape.proofs.items.write.Given as goal

abbrev pub invariant-loop-i : goal.invariant-loop-i
invariant-loop-i l = (length l.s ≡ length l.initial.s) × (l.s ≡ store l.initial.s l.at (item_bits l.w (take l.i l.xs)))
