-- `constant::holds` meets its contract.
use Rattle.dsdl_type.proofs.Holding.{held-boolean, held-signed, held-unsigned, held-floating, of-void, of-nested, of-unknown}
use Rattle.dsdl_type.proofs.constant.holds.Goals as goal

pub returns-in-Boolean : goal.returns-in-Boolean
returns-in-Boolean c =
    λ d en ew ev.
    let a = c.args in
    held-boolean a.b d a.s.now a.point a.n a.base a.negative _ en ew ev c.side.result c.in-Boolean.is c.side.ensures c.is_within.ensures

pub returns-in-Signed : goal.returns-in-Signed
returns-in-Signed c =
    λ d en ew ev.
    let a = c.args in
    held-signed a.b d a.s.now a.point a.n a.base a.negative _ en ew ev c.side-in-Signed.result c.ones-m.result _ c.in-Signed.is c.ones-m.ensures c.side-in-Signed.ensures c.is_within-in-Signed.ensures

pub returns-in-Unsigned : goal.returns-in-Unsigned
returns-in-Unsigned c =
    λ d en ew ev.
    let a = c.args in
    held-unsigned a.b d a.s.now a.point a.n a.base a.negative _ en ew ev c.side-in-Unsigned.result c.ones-m-in-Unsigned.result _ c.in-Unsigned.is c.ones-m-in-Unsigned.ensures c.side-in-Unsigned.ensures c.is_within-in-Unsigned.ensures

pub returns-in-Floating : goal.returns-in-Floating
returns-in-Floating c =
    λ d en ew ev.
    let a = c.args in
    held-floating a.b d a.s.now a.point a.n a.base a.negative _ en ew ev _ c.in-Floating.is c.is_finite.ensures

pub returns-in-Void : goal.returns-in-Void
returns-in-Void c = λ d en ew ev. of-void c.args.b d _ c.in-Void.is

pub returns-in-Nested : goal.returns-in-Nested
returns-in-Nested c = λ d en ew ev. of-nested c.args.b d c.in-Nested.is

pub returns-in-Unknown : goal.returns-in-Unknown
returns-in-Unknown c = λ d en ew ev. of-unknown c.args.b d c.in-Unknown.is
