use mathlib.Core.Path.{◌≡◌}
use mathlib.Core.List.{◌++◌, map}
use Prim.Native.Nat.{◌-◌}
use lib.ListN.{take, replicate}
use Rattle.equipment_esc.specs.RawCommand.{pattern_of}
use Rattle.equipment_esc.proofs.raw_command.patterns.Given as goal

abbrev pub invariant-loop-i : goal.invariant-loop-i
invariant-loop-i l = l.p ≡ map pattern_of (take l.i l.cmd) ++ replicate (20 - l.i) 0
