use Rattle.batch.proofs.Turns.{Going}
use Rattle.batch.proofs.receive_all.Given as goal

abbrev pub invariant-loop-i : goal.invariant-loop-i
invariant-loop-i l = Going l.records l.n l.initial.state l.initial.results l.initial.out l.state l.results l.out l.i l.past
