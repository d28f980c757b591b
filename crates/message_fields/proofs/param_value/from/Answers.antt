-- `param_value::from` meets its contract: what is given for each case, of which the tag names one.
use mathlib.Core.Path.{refl, ◌∙◌}
use Rattle.row.proofs.Rows.{held, counted}
use Rattle.message_fields.proofs.Values.{made}
use Rattle.message_fields.proofs.param_value.from.Goals as goal

pub returns : goal.returns
returns c =
    c.of_tag.ensures
    ∙ made c.args.fields.now c.args.i c.requires.1 _ _ _ _ (counted _ _ c.count.ensures) (held _ _ c.number.ensures) refl (counted _ _ c.count-2.ensures)
