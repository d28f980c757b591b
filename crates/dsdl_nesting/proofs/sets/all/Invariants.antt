use Rattle.dsdl_nesting.specs.inside.Sets.{Nested}
use Rattle.dsdl_nesting.proofs.sets.all.Given as goal

abbrev pub invariant-loop-i : goal.invariant-loop-i
invariant-loop-i l = Nested l.source l.bounds l.n l.i l.sets
