use Rattle.bits.specs.Order.{octets, store}
use lib.ListN.{length}
use Prim.Native.Nat.{◌+◌, ◌-◌, ◌*◌, ◌%◌}
use mathlib.Core.Path.{◌≡◌}
use Rattle.bits.proofs.field.write.Given as goal

abbrev pub invariant-loop-i : goal.invariant-loop-i
invariant-loop-i l = (length l.s ≡ length l.initial.s) × (store l.s (l.at + l.i * 8) (octets (l.q - l.i) (l.w % 8) l.x) ≡ store l.initial.s l.at (octets l.q (l.w % 8) l.v))
