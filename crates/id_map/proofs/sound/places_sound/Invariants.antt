use Prim.Native.Nat.{◌-◌}
use lib.ListN.{length}
use Rattle.keys.proofs.Walk.{Tested}
use Rattle.id_map.specs.inside.Sound.{empty_or_fits}
use Rattle.id_map.proofs.sound.places_sound.Given as goal

abbrev pub invariant-loop-left : goal.invariant-loop-left
invariant-loop-left l = Tested (empty_or_fits l.map) l.table l.marks l.left l.i

abbrev pub decreases-loop-left : goal.decreases-loop-left
decreases-loop-left l = length l.table - l.i
