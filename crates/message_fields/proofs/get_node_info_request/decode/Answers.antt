-- `get_node_info_request::decode` meets its contract: what the message call gives.
use mathlib.Core.Path.{refl, sym, ap, ◌∙◌}
use mathlib.Core.List.{[]}
use Rattle.shape.specs.Answer.{answer_of}
use Rattle.shape.specs.Shape.{decoded}
use Rattle.protocol.specs.GetNodeInfoRequest.{request}
use Rattle.message_fields.specs.GetNodeInfo.{request_words}
use native.Mathlib.Omega.{arith}
use Rattle.row.proofs.Rows.{row-placed, read-refused, read-got}
use Rattle.message_fields.proofs.get_node_info_request.decode.Goals as goal

pub returns-in-Err : goal.returns-in-Err
returns-in-Err c =
    let a = c.args in
    rw c.number.ensures (read-refused request_words (decoded request a.payload.now) a.fields.now _ (sym (ap answer_of c.in-Err.is) ∙ c.decode.ensures))

pub returns-in-Ok : goal.returns-in-Ok
returns-in-Ok c =
    let a = c.args in
    let m = a.fields.now in
    read-got request_words (decoded request a.payload.now) m tt (sym (ap answer_of c.in-Ok.is) ∙ c.decode.ensures) [] refl (0, m) (row-placed [] m m (omega arith) refl)
