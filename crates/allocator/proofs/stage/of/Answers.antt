-- `stage::of` meets its contract, case by case.
use native.Mathlib.Omega.{arith}
use Rattle.allocator.proofs.Stages.{no_size, first-stage, second-stage, third-stage, no-stage}
use Rattle.allocator.proofs.stage.of.Goals as goal

pub returns-then-not-sized : goal.returns-then-not-sized
returns-then-not-sized c = let a = c.args in no_size a.first a.n (c.if-not-sized.true)

pub returns-then-first-eq1 : goal.returns-then-first-eq1
returns-then-first-eq1 c = first-stage c.args.first c.args.n (c.if-not-sized.false) c.if-first-eq1.true

pub returns-then-n-eq-STAGE : goal.returns-then-n-eq-STAGE
returns-then-n-eq-STAGE c = second-stage c.args.first c.args.n (c.if-not-sized.false) c.if-first-eq1.false c.if-n-eq-STAGE.true

pub returns-then-n-lt-STAGE : goal.returns-then-n-lt-STAGE
returns-then-n-lt-STAGE c = third-stage c.args.first c.args.n (c.if-not-sized.false) c.if-first-eq1.false c.if-n-eq-STAGE.false (omega arith)

pub returns : goal.returns
returns c = no-stage c.args.first c.args.n (c.if-not-sized.false) c.if-first-eq1.false c.if-n-eq-STAGE.false (omega arith)
