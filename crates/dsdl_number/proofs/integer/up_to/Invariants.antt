use Rattle.dsdl_number.specs.Integer.{value_from, value}
use lib.ListN.{drop}
use Prim.Native.Nat.{◌≤◌}
use mathlib.Core.Path.{◌≡◌}
use Rattle.dsdl_number.proofs.integer.up_to.Given as goal

abbrev pub invariant-loop-c : goal.invariant-loop-c
invariant-loop-c l = (l.v ≤ l.m) × (value_from 10 l.v (drop l.c-index l.s) ≡ value 10 l.s)
