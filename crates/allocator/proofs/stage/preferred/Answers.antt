-- `stage::preferred` meets its contract, case by case.
use native.Mathlib.Omega.{arith}
use Rattle.allocator.proofs.Stages.{prefers-any, prefers-last, prefers-it}
use Rattle.allocator.proofs.stage.preferred.Goals as goal

pub returns-then-p-eq0 : goal.returns-then-p-eq0
returns-then-p-eq0 c = (prefers-any c.args.p c.if-p-eq0.true, omega arith)

pub returns-then-p : goal.returns-then-p
returns-then-p c = (prefers-last c.args.p c.if-p-eq0.false (omega arith), omega arith)

pub returns : goal.returns
returns c = (prefers-it c.args.p c.if-p-eq0.false (omega arith), omega arith)
