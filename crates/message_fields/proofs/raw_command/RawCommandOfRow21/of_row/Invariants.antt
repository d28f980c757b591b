use mathlib.Core.Path.{◌≡◌}
use mathlib.Core.List.{◌++◌, map}
use Prim.Native.Nat.{◌-◌}
use lib.IntN.{pos}
use lib.ListN.{take, replicate}
use Rattle.bits.specs.Part.{span}
use Rattle.shape.specs.Signed.{signed_of}
use Rattle.message_fields.proofs.raw_command.RawCommandOfRow21.of_row.Given as goal

abbrev pub invariant-loop-i : goal.invariant-loop-i
invariant-loop-i l = l.cmd ≡ map (signed_of 64) (take l.i (span l.fields 1 20)) ++ replicate (20 - l.i) (pos 0)
