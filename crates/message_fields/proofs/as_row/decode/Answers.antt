-- `as_row::decode` meets its contract: what the message call gives, as words.
use mathlib.Core.Path.{sym, ap, ◌∙◌}
use Rattle.shape.specs.Answer.{answer_of}
use Rattle.row.proofs.Rows.{read-refused, read-got}
use Rattle.message_fields.proofs.as_row.decode.Goals as goal

pub returns-in-Err : goal.returns-in-Err
returns-in-Err g c =
    let a = c.args in
    let m = g.T.AsRow in
    rw c.number.ensures (read-refused m.words (m.read a.payload.now) a.fields.now _ (sym (ap answer_of c.in-Err.is) ∙ c.read.ensures))

pub returns-in-Ok : goal.returns-in-Ok
returns-in-Ok g c =
    let a = c.args in
    let m = g.T.AsRow in
    read-got m.words (m.read a.payload.now) a.fields.now c.in-Ok.x (sym (ap answer_of c.in-Ok.is) ∙ c.read.ensures)
    c.words-w.result c.words-w.ensures _ c.put.ensures
