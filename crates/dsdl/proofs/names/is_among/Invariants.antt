use Rattle.dsdl.specs.Definition.{is_among}
use Rattle.dsdl.specs.inside.Names.{names_at}
use Prim.Native.Nat.{◌≤◌}
use mathlib.Core.Path.{◌≡◌}
use Rattle.dsdl.proofs.names.is_among.Given as goal

abbrev pub invariant-loop-i : goal.invariant-loop-i
invariant-loop-i l = (l.i ≤ l.n) × (is_among l.x (names_at l.t l.seen l.i) ≡ is_among l.x (names_at l.t l.seen l.n))
