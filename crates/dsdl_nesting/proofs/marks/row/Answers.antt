-- `marks::row` meets its contract.
use Rattle.dsdl_nesting.proofs.Kept.{on, off, done}
use Rattle.dsdl_text.proofs.Choices.{by}
use native.Mathlib.Omega.{arith}
use mathlib.Core.Path.{sym, ◌∙◌}
use Rattle.dsdl_nesting.proofs.marks.row.Goals as goal

pub returns-then-not-holds : goal.returns-then-not-holds
returns-then-not-holds c =
    sym (sym c.loop-j.invariant ∙ off _ c.loop-j.j 9 (omega arith) (by c.holds.ensures c.if-not-holds.true))

pub loop-j-preserved : goal.loop-j-preserved
loop-j-preserved c =
    sym (on _ c.loop-j.j 9 (omega arith) (by c.holds.ensures c.if-not-holds.false)) ∙ c.loop-j.invariant

pub returns : goal.returns
returns c =
    sym (sym c.loop-j.invariant ∙ done _ c.loop-j.j 9 (omega arith))
