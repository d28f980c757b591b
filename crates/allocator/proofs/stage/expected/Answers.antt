-- `stage::expected` meets its contract, case by case.
use native.Mathlib.Omega.{arith}
use Rattle.allocator.proofs.Stages.{expects-first, expects-third, expects-second, expects-none}
use Rattle.allocator.proofs.stage.expected.Goals as goal

pub returns-then-n-eq0 : goal.returns-then-n-eq0
returns-then-n-eq0 c = expects-first c.args.n c.if-n-eq0.true

pub returns-then-n : goal.returns-then-n
returns-then-n c = expects-third c.args.n c.if-n-eq0.false (omega arith)

pub returns-then-n-ge-STAGE : goal.returns-then-n-ge-STAGE
returns-then-n-ge-STAGE c = expects-second c.args.n c.if-n-eq0.false (omega arith) (omega arith)

pub returns : goal.returns
returns c = expects-none c.args.n c.if-n-eq0.false (omega arith) (omega arith)
