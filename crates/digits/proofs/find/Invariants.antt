use Rattle.digits.specs.Find.{before}
use lib.ListN.{drop}
use Prim.Native.Nat.{◌+◌}
use mathlib.Core.Path.{◌≡◌}
use Rattle.digits.proofs.find.Given as goal

abbrev pub invariant-loop-i : goal.invariant-loop-i
invariant-loop-i l = l.i + before l.c (drop l.i l.s) ≡ l.from + before l.c (drop l.from l.s)
