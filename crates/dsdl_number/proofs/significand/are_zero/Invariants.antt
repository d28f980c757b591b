use Rattle.dsdl_number.specs.inside.Significand.{significand, padded, are_zero}
use lib.ListN.{drop}
use mathlib.Core.Path.{◌≡◌}
use Rattle.dsdl_number.proofs.significand.are_zero.Given as goal

abbrev pub invariant-loop-k : goal.invariant-loop-k
invariant-loop-k l = are_zero (drop l.k (padded l.to (significand l.point l.s))) ≡ are_zero (drop l.from (padded l.to (significand l.point l.s)))
