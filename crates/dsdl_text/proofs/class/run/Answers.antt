-- `class::run` meets its contract.
use Rattle.dsdl_text.proofs.Choices.{by}
use Rattle.dsdl_text.proofs.Runs.{hit, miss, at-end}
use native.Mathlib.Omega.{arith}
use native.Mathlib.Numerals.{add-one}
use Rattle.dsdl_text.proofs.class.run.Goals as goal

pub returns-then-not-is : goal.returns-then-not-is
returns-then-not-is c =
    let a = c.args in
    let h = hit a.class a.s.now c.loop-i.i (omega arith) (by c.is.ensures c.if-not-is.true) in
    (omega arith, omega arith)

pub loop-i-preserved : goal.loop-i-preserved
loop-i-preserved c =
    let a = c.args in
    let h = miss a.class a.s.now c.loop-i.i (omega arith) (by c.is.ensures c.if-not-is.false) in
    rw add-one (omega arith)

pub returns : goal.returns
returns c =
    let a = c.args in
    let h = at-end a.class a.s.now c.loop-i.i (omega arith) in
    (omega arith, omega arith)
