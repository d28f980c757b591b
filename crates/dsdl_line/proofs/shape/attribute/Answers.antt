-- `shape::attribute` meets its contract.
use Rattle.dsdl_text.proofs.Choices.{by}
use Rattle.dsdl_line.proofs.Attributes.{unnamed, goes_on, fits, misfits}
use Rattle.dsdl_line.proofs.shape.attribute.Goals as goal

pub returns-then-not-is_name : goal.returns-then-not-is_name
returns-then-not-is_name c =
    let a = c.args in
    unnamed a.line.now a.c a.w c.next-x.result a.stop c.next-x.ensures.0 (by c.is_name.ensures c.if-not-is_name.true)

pub returns-then-not-is_ended : goal.returns-then-not-is_ended
returns-then-not-is_ended c =
    let a = c.args in
    goes_on a.line.now a.c a.w c.next-x.result a.stop c.next-x.ensures.0 (by c.is_name.ensures c.if-not-is_name.false)
    c.next.result _ (by c.is_ended.ensures c.if-not-is_ended.true) c.next.ensures.0 c.constant.ensures

pub returns-then-is_field_type : goal.returns-then-is_field_type
returns-then-is_field_type c =
    let a = c.args in
    fits a.line.now a.c a.w c.next-x.result a.stop c.next-x.ensures.0 (by c.is_name.ensures c.if-not-is_name.false)
    (by c.is_ended.ensures c.if-not-is_ended.false) (by c.is_field_type.ensures c.if-is_field_type.true)

pub returns : goal.returns
returns c =
    let a = c.args in
    misfits a.line.now a.c a.w c.next-x.result a.stop c.next-x.ensures.0 (by c.is_name.ensures c.if-not-is_name.false)
    (by c.is_ended.ensures c.if-not-is_ended.false) (by c.is_field_type.ensures c.if-is_field_type.false)
