use mathlib.Core.Path.{◌≡◌}
use Prim.Native.Nat.{suc, ◌-◌, ◌^◌, ◌<◌}
use lib.ListN.{take, drop}
use Rattle.bits.specs.Little.{le}
use Rattle.rules.specs.Sent.{framed}
use Rattle.frame.proofs.record.word.Given as goal

abbrev pub invariant-loop-i : goal.invariant-loop-i
invariant-loop-i l = (l.v ≡ le (drop l.i (framed (take l.k l.p) l.tail))) × (l.v < 256 ^ (suc l.k - l.i))
