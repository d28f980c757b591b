use Rattle.dsdl_given.specs.inside.Places.{definition_at, names_from}
use Rattle.dsdl.specs.Definition.{is_among}
use Prim.Native.Nat.{◌+◌}
use mathlib.Core.Path.{◌≡◌}
use Rattle.dsdl_given.proofs.oversized.is_again.Given as goal

abbrev pub invariant-loop-j : goal.invariant-loop-j
invariant-loop-j l = is_among (definition_at l.source l.bounds l.i).name (names_from l.source l.bounds l.j l.n) ≡ is_among (definition_at l.source l.bounds l.i).name (names_from l.source l.bounds (l.i + 1) l.n)
