use mathlib.Core.Path.{◌≡◌}
use Prim.Native.Nat.{◌-◌, ◌^◌, ◌<◌}
use lib.ListN.{length, drop}
use Rattle.bits.specs.Little.{le}
use Rattle.bits.proofs.le.get.Given as goal

abbrev pub invariant-loop-i : goal.invariant-loop-i
invariant-loop-i l = (l.v ≡ le (drop l.i l.s)) × (l.v < 256 ^ (length l.s - l.i))
