use Rattle.judge_streams.specs.inside.Table.{Table}
use Rattle.state.specs.Layout.{setup_of}
use Rattle.judge_capture.proofs.Walk.{Walked}
use Rattle.judge_capture.proofs.records.feed.Given as goal

abbrev pub invariant-loop-i : goal.invariant-loop-i
invariant-loop-i l = Table l.table × Walked (setup_of l.state) l.initial.table l.records l.i l.table
