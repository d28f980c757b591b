-- `constant::is_under` meets its contract.
use Rattle.dsdl_type.proofs.Finite.{base-bounds, shifted, in-decimal, in-power}
use Rattle.dsdl_number.specs.inside.Significand.{significand}
use native.Mathlib.Omega.{arith}
use Rattle.dsdl_type.proofs.constant.is_under.Goals as goal

pub returns-then-base-eq10 : goal.returns-then-base-eq10
returns-then-base-eq10 c =
    let a = c.args in
    in-decimal a.base (significand a.point a.s.now) a.n a.ones a.zeros _ c.requires.digits.1.0 _ c.if-base-eq10.true c.requires.bound c.is_below.ensures

pub overflow_sub-ones : goal.overflow_sub-ones
overflow_sub-ones c = (shifted c.args.ones c.args.zeros c.log-k.result c.requires.bound.0 c.log-k.ensures.1).1

pub returns : goal.returns
returns c =
    let a = c.args in
    let s = shifted a.ones a.zeros c.log-k.result c.requires.bound.0 c.log-k.ensures.1 in
    in-power a.base (significand a.point a.s.now) a.n a.ones a.zeros _ c.requires.digits.1.0 c.log-k.result _ c.minus.result
    (base-bounds a.base c.requires.digits.1.1).0 c.log-k.ensures.0 c.requires.bound.0 (omega (arith, s.0)) c.minus.ensures c.at_most.ensures
