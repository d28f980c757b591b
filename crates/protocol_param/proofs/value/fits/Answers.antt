-- `value::fits` meets its contract.
use mathlib.Core.Path.{sym, ◌∙◌}
use Rattle.protocol_param.proofs.WriteFacts.{fits-other, fits-text}
use Rattle.protocol_param.proofs.value.fits.Goals as goal

pub returns-then-tag_of-ne4 : goal.returns-then-tag_of-ne4
returns-then-tag_of-ne4 c =
    let a = c.args in
    fits-other a.v a.text.now (λ e. c.if-tag_of-ne4.true (c.tag_of.ensures ∙ e))

pub returns : goal.returns
returns c =
    let a = c.args in
    fits-text a.v a.text.now (sym c.tag_of.ensures ∙ c.if-tag_of-ne4.false)
