use mathlib.Core.Path.{◌≡◌}
use mathlib.Core.List.{◌++◌}
use Prim.Native.Nat.{◌-◌}
use lib.ListN.{length, take}
use Rattle.bits.specs.Little.{le_bytes}
use Rattle.bits.proofs.le.put.Given as goal

abbrev pub invariant-loop-b : goal.invariant-loop-b
invariant-loop-b l = take l.b-index l.s ++ le_bytes (length l.initial.s - l.b-index) l.x ≡ le_bytes (length l.initial.s) l.v
