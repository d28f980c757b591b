use Rattle.dsdl_text.specs.Names.{last_dot}
use lib.ListN.{drop}
use Prim.Native.Nat.{◌≤◌}
use mathlib.Core.Path.{◌≡◌}
use Rattle.dsdl_text.proofs.name.space.Given as goal

abbrev pub invariant-loop-i : goal.invariant-loop-i
invariant-loop-i l = (l.end ≤ l.i) × (last_dot l.i l.end (drop l.i l.s) ≡ last_dot 0 0 l.s)
