use Rattle.capture_convert.proofs.Walking.{Measuring}
use Rattle.capture_convert.proofs.lines.measure.Given as goal

abbrev pub invariant-loop-count : goal.invariant-loop-count
invariant-loop-count l = Measuring l.records l.n l.count l.len
