-- `significand::at_most` meets its contract.
use Rattle.dsdl_number.proofs.Bounded.{over, quotient-below, quotient_fits}
use Rattle.dsdl_number.proofs.Significands.{next-digit, no_digit}
use Rattle.dsdl_number.specs.inside.Significand.{significand}
use borrow.Author.Tests.{le-leb}
use native.Mathlib.Omega.{arith}
use native.Mathlib.Numerals.{add-one}
use mathlib.Core.Path.{sym, ◌∙◌}
use Rattle.dsdl_number.proofs.significand.at_most.Goals as goal

pub returns-then-m-d : goal.returns-then-m-d
returns-then-m-d c =
    let a = c.args in
    let t = next-digit a.base c.loop-k.v c.digit_at-d.result a.n c.loop-k.k _ (omega arith) c.digit_at-d.ensures.0 in
    over a.base c.loop-k.v c.digit_at-d.result a.m _ _ c.requires.1.0 (sym t ∙ c.loop-k.invariant.1.1) (omega arith)

pub returns-then-m-d-2 : goal.returns-then-m-d-2
returns-then-m-d-2 c =
    let a = c.args in
    let t = next-digit a.base c.loop-k.v c.digit_at-d.result a.n c.loop-k.k _ (omega arith) c.digit_at-d.ensures.0 in
    over a.base c.loop-k.v c.digit_at-d.result a.m _ _ c.requires.1.0 (sym t ∙ c.loop-k.invariant.1.1)
    (quotient-below a.base c.loop-k.v c.digit_at-d.result a.m c.requires.1.0 c.if-m-d.false c.if-m-d-2.true)

pub loop-k-preserved : goal.loop-k-preserved
loop-k-preserved c =
    let a = c.args in
    let t = next-digit a.base c.loop-k.v c.digit_at-d.result a.n c.loop-k.k _ (omega arith) c.digit_at-d.ensures.0 in (
      omega arith,
      (
        quotient_fits a.base c.loop-k.v c.digit_at-d.result a.m c.if-m-d.false c.if-m-d-2.false,
        rw add-one (sym t ∙ c.loop-k.invariant.1.1),
      ),
    )

pub returns : goal.returns
returns c =
    let a = c.args in
    sym (le-leb _ a.m (omega (arith, no_digit a.base c.loop-k.v a.n c.loop-k.k (significand a.point a.s.now) (omega arith), c.loop-k.invariant.1.1)))
