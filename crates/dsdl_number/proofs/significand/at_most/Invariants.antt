use Rattle.dsdl_number.specs.Integer.{value_from, value}
use Rattle.dsdl_number.specs.inside.Significand.{significand, padded}
use lib.ListN.{drop}
use Prim.Native.Nat.{◌≤◌}
use mathlib.Core.Path.{◌≡◌}
use Rattle.dsdl_number.proofs.significand.at_most.Given as goal

abbrev pub invariant-loop-k : goal.invariant-loop-k
invariant-loop-k l =
    (l.k ≤ l.n) × ((l.v ≤ l.m) × (value_from l.base l.v (drop l.k (padded l.n (significand l.point l.s))) ≡ value l.base (padded l.n (significand l.point l.s))))
