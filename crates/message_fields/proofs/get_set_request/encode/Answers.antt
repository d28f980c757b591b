-- `get_set_request::encode` meets its contract: the message call on the row's index and value; 17 for a real that is no float.
use mathlib.Core.Path.{refl, sym, ap, ◌∙◌}
use native.Mathlib.Omega.{arith}
use lib.IntN.{ℤ}
use Rattle.bits.specs.Width.{width_of, width_in}
use Rattle.shape.specs.Shape.{written}
use Rattle.protocol_param.specs.Value.{value_values}
use Rattle.protocol_param.specs.GetSetRequest.{name_only, request}
use Rattle.protocol_param.specs.declared.value.Value.{Value}
use Rattle.row.proofs.Rows.{counted, both, write-short, write-refused, write_as}
use Rattle.row.proofs.Lengths.{word_fits}
use Rattle.message_fields.proofs.Reals.{request-17}
use Rattle.message_fields.proofs.get_set_request.encode.Goals as goal

pub returns-then-fields-lt7 : goal.returns-then-fields-lt7
returns-then-fields-lt7 c = let a = c.args in write-short 7 a.fields.now _ a.out.now (omega arith)

pub returns-then-is_too_large : goal.returns-then-is_too_large
returns-then-is_too_large c =
    let a = c.args in
    write-refused 7 a.fields.now _ a.out.now (omega arith) 17 (request-17 a.fields.now _ _ _ _ (sym c.is_too_large.ensures ∙ c.if-is_too_large.true))

pub from-v-requires : goal.from-v-requires
from-v-requires c = (omega arith, sym c.is_too_large.ensures ∙ c.if-is_too_large.false)

pub of_written-requires : goal.of_written-requires
unfolding width_of width_in
of_written-requires c =
    let a = c.args in
    word_fits request refl _ a.out.now _ _ c.encode.ensures

pub returns : goal.returns
returns c =
    let a = c.args in
    let m = a.out.now in
    write_as 7 a.fields.now _ m (omega arith) _ _
    (c.encode.ensures ∙ ap (λ (p : ℤ × Value). written request (p.0, value_values p.1 a.string_value.now 5 name_only a.name.now) m) (both (counted _ _ c.count.ensures) c.from-v.ensures))
    _ c.of_written.ensures
