use Rattle.dsdl_nesting.specs.inside.Kept.{index_of}
use Rattle.dsdl_text.specs.Names.{full_name}
use Rattle.dsdl_given.specs.inside.Places.{definition_at, given}
use Rattle.bits.specs.Tabulate.{tabulate}
use Prim.Native.Nat.{◌+◌, ◌-◌}
use mathlib.Core.Path.{◌≡◌}
use Rattle.dsdl_nesting.proofs.index.find.Given as goal

abbrev pub invariant-loop-i : goal.invariant-loop-i
invariant-loop-i l = index_of (given l.source l.bounds l.n) (full_name l.space l.base) ≡ l.i + index_of (tabulate (definition_at l.source l.bounds) l.i (l.n - l.i)) (full_name l.space l.base)
