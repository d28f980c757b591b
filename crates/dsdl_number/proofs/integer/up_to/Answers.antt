-- `integer::up_to` meets its contract.
use Rattle.dsdl_number.proofs.Bounded.{turn, cut-over, quotient-below, quotient_fits}
use Rattle.dsdl_number.proofs.Capped.{done}
use native.Mathlib.Omega.{arith}
use native.Mathlib.Numerals.{add-one}
use mathlib.Core.Path.{sym, ◌∙◌}
use Rattle.dsdl_number.proofs.integer.up_to.Goals as goal

pub returns-then-m-d : goal.returns-then-m-d
returns-then-m-d c =
    let a = c.args in
    let t = turn 10 c.loop-c.v c.digit-d.result a.s.now c.loop-c.c-index (omega arith) c.digit-d.ensures.0 in
    cut-over 10 c.loop-c.v c.digit-d.result a.m _ _ (omega arith) (sym t ∙ c.loop-c.invariant.1) (omega arith)

pub returns-then-m-d-2 : goal.returns-then-m-d-2
returns-then-m-d-2 c =
    let a = c.args in
    let t = turn 10 c.loop-c.v c.digit-d.result a.s.now c.loop-c.c-index (omega arith) c.digit-d.ensures.0 in
    cut-over 10 c.loop-c.v c.digit-d.result a.m _ _ (omega arith) (sym t ∙ c.loop-c.invariant.1)
    (quotient-below 10 c.loop-c.v c.digit-d.result a.m (omega arith) c.if-m-d.false c.if-m-d-2.true)

pub loop-c-preserved : goal.loop-c-preserved
loop-c-preserved c =
    let a = c.args in
    let t = turn 10 c.loop-c.v c.digit-d.result a.s.now c.loop-c.c-index (omega arith) c.digit-d.ensures.0 in (
      quotient_fits 10 c.loop-c.v c.digit-d.result a.m c.if-m-d.false c.if-m-d-2.false,
      rw add-one (sym t ∙ c.loop-c.invariant.1),
    )

pub returns : goal.returns
returns c =
    let a = c.args in
    omega (arith, done 10 c.loop-c.v a.s.now c.loop-c.c-index (omega arith), c.loop-c.invariant.1)
