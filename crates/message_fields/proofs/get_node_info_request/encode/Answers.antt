-- `get_node_info_request::encode` meets its contract: the message call.
use mathlib.Core.Path.{refl}
use native.Mathlib.Omega.{arith}
use Rattle.protocol.specs.GetNodeInfoRequest.{request}
use Rattle.row.proofs.Rows.{write_as}
use Rattle.row.proofs.Lengths.{word_fits}
use Rattle.message_fields.proofs.get_node_info_request.encode.Goals as goal

pub of_written-requires : goal.of_written-requires
of_written-requires c =
    let a = c.args in
    word_fits request refl tt a.out.now _ _ c.encode.ensures

pub returns : goal.returns
returns c =
    let a = c.args in
    write_as 0 a.fields.now _ a.out.now (omega arith) _ _ c.encode.ensures _ c.of_written.ensures
