-- `base::within` meets its contract.
use Rattle.dsdl_nesting.proofs.Bases.{empty, behind, cut}
use native.Mathlib.Omega.{arith}
use Rattle.dsdl_nesting.proofs.base.within.Goals as goal

pub returns-then-n-at : goal.returns-then-n-at
returns-then-n-at c = let a = c.args in (behind a.line.now a.w c.if-n-at.true, (omega arith, omega arith))

pub returns-then-end-at : goal.returns-then-end-at
returns-then-end-at c = let a = c.args in (empty a.line.now a.w c.if-end-at.true, (omega arith, omega arith))

pub returns-then-n-end : goal.returns-then-n-end
returns-then-n-end c = let a = c.args in (cut a.line.now a.w c.if-n-end.true, (omega arith, omega arith))
