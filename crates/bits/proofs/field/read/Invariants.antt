use Rattle.bits.specs.Order.{unpack, number}
use lib.ListN.{drop}
use Prim.Native.Nat.{◌+◌, ◌-◌, ◌*◌, ◌%◌}
use mathlib.Core.Path.{◌≡◌}
use Rattle.bits.proofs.field.read.Given as goal

abbrev pub invariant-loop-i : goal.invariant-loop-i
invariant-loop-i l = l.v ≡ number (l.q - l.i) (l.w % 8) (drop (l.at + l.i * 8) (unpack l.s))
