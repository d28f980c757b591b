use mathlib.Core.Path.{◌≡◌}
use Prim.Native.Nat.{◌<◌}
use lib.ListN.{drop}
use Rattle.dsdl.specs.inside.Names.{names_max, mark_from, mark_of}
use Rattle.dsdl.proofs.names.mark_at.Given as goal

abbrev pub invariant-loop-c : goal.invariant-loop-c
invariant-loop-c l = (l.mark < names_max) × (mark_from l.mark (drop l.c-index l.x) ≡ mark_of l.x)
