use mathlib.Core.Path.{◌≡◌}
use mathlib.Core.List.{◌++◌, map}
use Prim.Native.Nat.{◌-◌}
use lib.IntN.{pos}
use lib.ListN.{take, replicate}
use Rattle.shape.specs.Signed.{signed_of}
use Rattle.equipment_esc.proofs.raw_command.numbers.Given as goal

abbrev pub invariant-loop-i : goal.invariant-loop-i
invariant-loop-i l = l.cmd ≡ map (signed_of 14) (take l.i l.patterns) ++ replicate (20 - l.i) (pos 0)
