-- `shape::cast_attribute` meets its contract.
use Rattle.dsdl_line.proofs.Attributes.{cast-read}
use Rattle.dsdl_line.proofs.shape.cast_attribute.Goals as goal

pub returns : goal.returns
returns c =
    let a = c.args in
    cast-read a.line.now a.from a.stop c.next-w.result c.next-w.ensures.0 a.c _ c.attribute.ensures
