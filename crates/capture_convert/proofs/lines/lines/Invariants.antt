use Rattle.capture_convert.proofs.Walking.{Lining}
use Rattle.capture_convert.proofs.lines.lines.Given as goal

abbrev pub invariant-loop-count : goal.invariant-loop-count
invariant-loop-count l = Lining l.records l.initial.out l.out l.n l.count l.p
