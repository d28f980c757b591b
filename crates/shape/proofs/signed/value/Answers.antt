-- `signed::value` meets its contract.
use native.Mathlib.Omega.{arith}
use Rattle.shape.proofs.SignedFacts.{low, rest-fits, high}
use Rattle.shape.proofs.signed.value.Goals as goal

pub returns-then-x-top : goal.returns-then-x-top
returns-then-x-top c =
    let a = c.args in
    low a.w c.ones-top.result (omega arith) c.ones-top.ensures a.x (omega arith) c.if-x-top.true

pub overflow_sub-result-2 : goal.overflow_sub-result-2
overflow_sub-result-2 c =
    let a = c.args in
    rest-fits a.w c.ones-top.result (omega arith) c.ones-top.ensures a.x (omega arith) (omega arith) c.if-x-top.false

pub returns : goal.returns
returns c =
    let a = c.args in
    high a.w c.ones-top.result (omega arith) c.ones-top.ensures a.x (omega arith) (omega arith) c.if-x-top.false
