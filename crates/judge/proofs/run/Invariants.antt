use Rattle.std.proofs.Common.{◌≡◌, length}
use Rattle.judge_streams.specs.inside.Table.{Table}
use Rattle.judge.proofs.run.Given as goal

abbrev pub invariant-loop-s : goal.invariant-loop-s
invariant-loop-s l = Table l.table × ((length l.block ≡ length l.initial.block) × (length l.kept ≡ length l.initial.kept))

abbrev pub decreases-loop-s : goal.decreases-loop-s
decreases-loop-s l = l.s.left
