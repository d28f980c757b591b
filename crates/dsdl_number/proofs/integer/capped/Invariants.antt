use Rattle.dsdl_number.specs.Integer.{value_from}
use Rattle.dsdl_number.specs.inside.Capped.{cap}
use lib.ListN.{drop}
use Prim.Native.Nat.{◌≤◌, min}
use mathlib.Core.Path.{◌≡◌}
use Rattle.dsdl_number.proofs.integer.capped.Given as goal

abbrev pub invariant-loop-c : goal.invariant-loop-c
invariant-loop-c l = (l.v ≤ cap) × (min (value_from l.base l.v (drop l.c-index l.s)) cap ≡ min (value_from l.base 0 l.s) cap)
