use Rattle.digits.specs.Digits.{number_from}
use lib.ListN.{drop}
use Prim.Native.Nat.{◌^◌, ◌<◌}
use mathlib.Core.Path.{◌≡◌}
use Rattle.digits.proofs.number.Given as goal

abbrev pub invariant-loop-c : goal.invariant-loop-c
invariant-loop-c l = (l.v < 16 ^ l.c-index) × (number_from l.base l.v (drop l.c-index l.s) ≡ number_from l.base 0 l.s)
