use Rattle.dsdl_nesting.specs.inside.Kept.{Kept}
use Rattle.dsdl_nesting.specs.inside.Sets.{row_holds}
use mathlib.Core.Bool.{true, false}
use Rattle.dsdl_nesting.proofs.marks.next.Given as goal

abbrev pub invariant-loop-i : goal.invariant-loop-i
invariant-loop-i l = Kept false (row_holds l.sets l.marks) true l.n l.i l.r
