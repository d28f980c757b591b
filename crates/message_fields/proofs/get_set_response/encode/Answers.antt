-- `get_set_response::encode` meets its contract: the message call on the row's values; 27 or 17 for a real that is no float.
use mathlib.Core.Path.{refl, sym, ap, ◌∙◌}
use native.Mathlib.Omega.{arith}
use Rattle.bits.specs.Width.{width_of, width_in}
use Rattle.shape.specs.Shape.{written}
use Rattle.protocol_param.specs.GetSetResponse.{response, response_values}
use Rattle.protocol_param.specs.declared.value.Value.{Value}
use Rattle.row.proofs.Rows.{both, write-short, write-refused, write_as}
use Rattle.row.proofs.Lengths.{word_fits}
use Rattle.message_fields.proofs.Reals.{response-17, response-27, none}
use Rattle.message_fields.proofs.get_set_response.encode.Goals as goal

pub returns-then-fields-lt14 : goal.returns-then-fields-lt14
returns-then-fields-lt14 c = let a = c.args in write-short 14 a.fields.now _ a.out.now (omega arith)

pub returns-then-known : goal.returns-then-known
returns-then-known c =
    let a = c.args in
    write-refused 14 a.fields.now _ a.out.now (omega arith) 17
    (response-17 a.fields.now _ _ _ _ (sym c.is_too_large.ensures ∙ c.if-is_too_large.true) (sym c.known.ensures ∙ c.if-known.true))

pub returns-then-is_too_large : goal.returns-then-is_too_large
returns-then-is_too_large c =
    let a = c.args in
    write-refused 14 a.fields.now _ a.out.now (omega arith) 27 (response-27 a.fields.now _ _ _ _ (sym c.known.ensures ∙ c.if-known.false))

pub from-v-requires : goal.from-v-requires
from-v-requires c = (omega arith, (none c.args.fields.now (sym c.is_too_large.ensures ∙ c.if-is_too_large.false)).0.0)

pub from-d-requires : goal.from-d-requires
from-d-requires c = (omega arith, (none c.args.fields.now (sym c.is_too_large.ensures ∙ c.if-is_too_large.false)).0.1)

pub from-max-requires : goal.from-max-requires
from-max-requires c = (omega arith, (none c.args.fields.now (sym c.is_too_large.ensures ∙ c.if-is_too_large.false)).1.0)

pub from-min-requires : goal.from-min-requires
from-min-requires c = (omega arith, (none c.args.fields.now (sym c.is_too_large.ensures ∙ c.if-is_too_large.false)).1.1)

pub of_written-requires : goal.of_written-requires
unfolding width_of width_in
of_written-requires c =
    let a = c.args in
    word_fits response refl _ a.out.now _ _ c.encode.ensures

pub returns : goal.returns
returns c =
    let a = c.args in
    let m = a.out.now in
    write_as 14 a.fields.now _ m (omega arith) _ _
    (c.encode.ensures ∙ ap (λ (p : (Value × Value) × (Value × Value)). written response (response_values p.0.0 a.string_value.now p.0.1 a.default_string_value.now p.1.0 p.1.1 a.name.now) m) (both (both c.from-v.ensures c.from-d.ensures) (both c.from-max.ensures c.from-min.ensures)))
    _ c.of_written.ensures
