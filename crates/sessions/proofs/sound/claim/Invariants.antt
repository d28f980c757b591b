use mathlib.Core.Path.{◌≡◌}
use mathlib.Core.Option.{some}
use lib.ListN.{take}
use Rattle.sessions.specs.inside.Sound.{claimed}
use Rattle.sessions.proofs.sound.claim.Given as goal

abbrev pub invariant-loop-b : goal.invariant-loop-b
invariant-loop-b l = claimed l.seen (take l.b-index l.b-items) ≡ some l.all
