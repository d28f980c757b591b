-- `find` meets its contract.
use Rattle.digits.proofs.Before.{hit, miss, past}
use native.Mathlib.Omega.{arith}
use native.Mathlib.Numerals.{add-one}
use Rattle.digits.proofs.find.Goals as goal

pub returns-then-s-i : goal.returns-then-s-i
returns-then-s-i c =
    let a = c.args in
    (omega (arith, hit a.c a.s.now c.loop-i.i (omega arith) c.if-s-i.true), omega arith)

pub loop-i-preserved : goal.loop-i-preserved
loop-i-preserved c =
    let a = c.args in
    rw add-one (omega (arith, c.loop-i.invariant, miss a.c a.s.now c.loop-i.i (omega arith) c.if-s-i.false))

pub returns : goal.returns
returns c =
    let a = c.args in
    (omega (arith, c.loop-i.invariant, past a.c a.s.now c.loop-i.i (omega arith)), omega arith)
