use mathlib.Core.Path.{◌≡◌}
use lib.ListN.{take}
use Rattle.blocks.specs.inside.Bit.{including_all}
use Rattle.state.specs.Layout.{free_of}
use Rattle.sessions.proofs.gathered.free_with.Given as goal

abbrev pub invariant-loop-b : goal.invariant-loop-b
invariant-loop-b l = l.all ≡ including_all (free_of l.state) (take l.b-index l.b-items)
