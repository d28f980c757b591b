use Rattle.dsdl_given.specs.Given.{name_twice}
use Rattle.dsdl_given.specs.inside.Places.{definition_at, given}
use Rattle.bits.specs.Tabulate.{tabulate}
use Prim.Native.Nat.{◌-◌}
use mathlib.Core.Path.{◌≡◌}
use Rattle.dsdl_given.proofs.oversized.name_twice.Given as goal

abbrev pub invariant-loop-i : goal.invariant-loop-i
invariant-loop-i l = name_twice (tabulate (definition_at l.source l.bounds) l.i (l.n - l.i)) ≡ name_twice (given l.source l.bounds l.n)
