-- `get_set_response::known` meets its contract.
use mathlib.Core.Path.{sym, ◌∙◌}
use Rattle.protocol_param.proofs.WriteFacts.{not_first, not-second, not_third, then-fourth}
use Rattle.protocol_param.proofs.get_set_response.known.Goals as goal

pub returns-then-not-known : goal.returns-then-not-known
returns-then-not-known c =
    let a = c.args in
    not_first a.v a.default_value a.max_value a.min_value (sym c.known.ensures ∙ c.if-not-known.true)

pub returns-then-not-known-2 : goal.returns-then-not-known-2
returns-then-not-known-2 c =
    let a = c.args in
    not-second a.v a.default_value a.max_value a.min_value (sym c.known.ensures ∙ c.if-not-known.false) (sym c.known-2.ensures ∙ c.if-not-known-2.true)

pub returns-then-not-known-3 : goal.returns-then-not-known-3
returns-then-not-known-3 c =
    let a = c.args in
    not_third a.v a.default_value a.max_value a.min_value (sym c.known.ensures ∙ c.if-not-known.false) (sym c.known-2.ensures ∙ c.if-not-known-2.false) (sym c.known-3.ensures ∙ c.if-not-known-3.true)

pub returns : goal.returns
returns c =
    let a = c.args in
    c.known-4.ensures ∙ then-fourth a.v a.default_value a.max_value a.min_value (sym c.known.ensures ∙ c.if-not-known.false) (sym c.known-2.ensures ∙ c.if-not-known-2.false) (sym c.known-3.ensures ∙ c.if-not-known-3.false)
