use mathlib.Core.Path.{◌≡◌}
use Rattle.moves.proofs.Moved.{moved}
use Rattle.moves.proofs.up.Given as goal

abbrev pub invariant-loop-i : goal.invariant-loop-i
invariant-loop-i l = l.s ≡ moved l.initial.s l.at l.by l.n l.i
