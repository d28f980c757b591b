-- `open` meets its contract. A start that is no end has seven bytes.
use native.Mathlib.Omega.{arith}
use Rattle.judge_stream.proofs.Rules.{whole, opens}
use Rattle.judge_stream.proofs.open.Goals as goal

pub returns-then-v : goal.returns-then-v
returns-then-v c =
    let a = c.args in
    rw c.rest.ensures (whole a.signature a.v a.p.now c.if-v.true c.requires.transfer)

pub bounds-p-0 : goal.bounds-p-0
bounds-p-0 c = omega (arith, c.requires.full c.if-v.false)

pub overflow_cast-result : goal.overflow_cast-result
overflow_cast-result c = omega (arith, c.type_inv.p 0)

pub bounds-p-1 : goal.bounds-p-1
bounds-p-1 c = omega (arith, c.requires.full c.if-v.false)

pub overflow_cast-result-2 : goal.overflow_cast-result-2
overflow_cast-result-2 c = omega (arith, c.type_inv.p 1)

pub overflow_mul-result : goal.overflow_mul-result
overflow_mul-result c = omega (arith, c.type_inv.p 1)

pub overflow_add-result : goal.overflow_add-result
overflow_add-result c = omega (arith, c.type_inv.p 0, c.type_inv.p 1)

pub slice_bounds-transfer-count : goal.slice_bounds-transfer-count
slice_bounds-transfer-count c = omega (arith, c.requires.full c.if-v.false)

pub slice_bounds-transfer-start : goal.slice_bounds-transfer-start
slice_bounds-transfer-start c = omega (arith, c.requires.full c.if-v.false)

pub returns : goal.returns
returns c =
    let a = c.args in
    opens a.signature a.v a.p.now (c.requires.full c.if-v.false) c.if-v.false c.requires.transfer c.transfer.result c.transfer.ensures
