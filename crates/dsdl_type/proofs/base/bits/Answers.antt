-- `base::bits` meets its contract.
use Rattle.dsdl_text.proofs.Choices.{by}
use Rattle.dsdl_type.proofs.Bases.{no-digits, digits}
use native.Mathlib.Omega.{arith}
use Rattle.dsdl_type.proofs.base.bits.Goals as goal

pub returns-then-s-eq0 : goal.returns-then-s-eq0
returns-then-s-eq0 c = (no-digits c.args.s.now c.if-s-eq0.true, omega arith)

pub overflow_cast-result : goal.overflow_cast-result
overflow_cast-result c =
    let d = digits c.args.s.now c.capped.result (by c.is.ensures c.if-not-is.false) (by c.all.ensures c.if-not-all.false) c.if-s-gt2.false c.capped.ensures in
    omega (arith, d.1)

pub returns : goal.returns
returns c =
    digits c.args.s.now c.capped.result (by c.is.ensures c.if-not-is.false) (by c.all.ensures c.if-not-all.false)
    c.if-s-gt2.false c.capped.ensures
