use Rattle.log_line.proofs.Steps.{ahead}
use Rattle.log_line.specs.Reading.{pairs}
use lib.ListN.{length, take, drop, replicate}
use Prim.Native.Nat.{◌+◌, ◌*◌, ◌-◌}
use mathlib.Core.Path.{◌≡◌}
use Rattle.log_line.proofs.read.pairs.Given as goal

abbrev pub invariant-loop-j : goal.invariant-loop-j
invariant-loop-j l = (length l.bytes ≡ 8) ×
    ((pairs l.k (drop l.at l.line) ≡ ahead (take l.j l.bytes) (pairs (l.k - l.j) (drop (l.at + l.j * 3) l.line))) × (drop l.k l.bytes ≡ replicate (8 - l.k) 0))
