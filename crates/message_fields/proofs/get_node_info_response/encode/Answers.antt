-- `get_node_info_response::encode` meets its contract: the message call on the row's numbers.
use mathlib.Core.Path.{refl, ap, ◌∙◌}
use native.Mathlib.Omega.{arith}
use Rattle.bits.specs.Width.{width_of, width_in}
use Rattle.shape.specs.Shape.{Values, written}
use Rattle.protocol.specs.GetNodeInfoResponse.{lists, response, number_values}
use Rattle.protocol.specs.declared.get_node_info_response.Numbers.{Numbers}
use Rattle.row.proofs.Rows.{write-short, write_as}
use Rattle.row.proofs.Lengths.{word_fits}
use Rattle.message_fields.proofs.get_node_info_response.encode.Goals as goal

pub returns-then-fields-lt18 : goal.returns-then-fields-lt18
returns-then-fields-lt18 c = let a = c.args in write-short 18 a.fields.now _ a.out.now (omega arith)

pub of_written-requires : goal.of_written-requires
unfolding width_of width_in
of_written-requires c =
    let a = c.args in
    word_fits response refl _ a.out.now _ _ c.encode.ensures

pub returns : goal.returns
returns c =
    let a = c.args in
    let m = a.out.now in
    let l : Values lists = (a.unique_id.now, (a.certificate_of_authenticity.now, a.name.now)) in
    write_as 18 a.fields.now _ m (omega arith) _ _ (c.encode.ensures ∙ ap (λ (x : Numbers). written response (number_values x lists l) m) c.from-m.ensures) _ c.of_written.ensures
