use Rattle.dsdl_text.specs.Class.{run}
use lib.ListN.{drop}
use Prim.Native.Nat.{◌+◌}
use mathlib.Core.Path.{◌≡◌}
use Rattle.dsdl_text.proofs.class.run.Given as goal

abbrev pub invariant-loop-i : goal.invariant-loop-i
invariant-loop-i l = l.i + run l.class (drop l.i l.s) ≡ run l.class l.s
