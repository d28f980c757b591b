-- `integer::capped` meets its contract.
use Rattle.dsdl_number.proofs.Capped.{on, done}
use Rattle.dsdl_number.specs.inside.Capped.{cap}
use native.Mathlib.Omega.{arith}
use native.Mathlib.Numerals.{add-one}
use mathlib.Core.Path.{◌∙◌}
use Rattle.dsdl_number.proofs.integer.capped.Goals as goal

pub loop-c-preserved : goal.loop-c-preserved
loop-c-preserved c =
    let a = c.args in
    let o = on cap a.base a.s.now c.loop-c.c-index c.loop-c.v c.digit.result c.cut-v.result (omega arith) c.digit.ensures.0 c.cut-v.ensures in
    (omega arith, rw add-one (o ∙ c.loop-c.invariant.1))

pub returns : goal.returns
returns c =
    let a = c.args in
    omega (arith, done a.base c.loop-c.v a.s.now c.loop-c.c-index (omega arith), c.loop-c.invariant.1)
