-- `get_node_info_response::write_lists` meets its contract: the lists follow each other.
use native.Mathlib.Omega.{arith}
use Rattle.protocol.proofs.ResponseReadFacts.{eight}
use Rattle.protocol.proofs.ResponseWriteFacts.{stored-lists}
use Rattle.protocol.proofs.get_node_info_response.write_lists.Goals as goal

pub write-requires : goal.write-requires
write-requires c =
    (omega (arith, eight, c.width.ensures), (omega arith, omega (arith, eight, c.width.ensures, c.requires)))

pub returns : goal.returns
returns c =
    let a = c.args in
    stored-lists a.unique_id.now a.certificate.now a.name.now c.width.result c.width.ensures a.out.now c.write_bytes.new.s
    c.write.new.s
    c.write_bytes-2.new.s c.write_bytes-3.new.s c.requires.0 (omega (arith, c.requires.1)) c.write_bytes.ensures c.write.ensures
    c.write_bytes-2.ensures c.write_bytes-3.ensures
