use mathlib.Core.Path.{◌≡◌}
use mathlib.Core.Option.{some}
use Prim.Native.Nat.{◌-◌}
use lib.ListN.{length}
use Rattle.bits.specs.Tabulate.{tabulate}
use Rattle.keys.proofs.Walk.{Tested}
use Rattle.rules.specs.Blocks.{used}
use Rattle.sessions.specs.inside.Sound.{empty_or_fits, claimed}
use Rattle.state.specs.Layout.{free_of, place_at}
use Rattle.sessions.proofs.sound.places_sound.Given as goal

abbrev pub invariant-loop-left : goal.invariant-loop-left
invariant-loop-left l = Tested (empty_or_fits l.state) l.table l.marks l.left l.i × (claimed (free_of l.state) (used (tabulate (place_at l.state) 0 l.i)) ≡ some l.seen)

abbrev pub decreases-loop-left : goal.decreases-loop-left
decreases-loop-left l = length l.table - l.i
