-- `form::cast` meets its contract.
use mathlib.Core.Path.{sym, ap}
use Rattle.dsdl.specs.Form.{cast_form}
use Rattle.dsdl_form.proofs.Placements.{fits-as, as-text}
use Rattle.dsdl_form.proofs.form.cast.Goals as goal

pub text-requires : goal.text-requires
text-requires c =
    fits-as c.args.at (ap cast_form c.in-Unsaid.is) c.requires

pub text-requires-in-Saturated : goal.text-requires-in-Saturated
text-requires-in-Saturated c =
    fits-as c.args.at (ap cast_form c.in-Saturated.is) c.requires

pub text-requires-in-Truncated : goal.text-requires-in-Truncated
text-requires-in-Truncated c =
    fits-as c.args.at (ap cast_form c.in-Truncated.is) c.requires

pub returns-in-Unsaid : goal.returns-in-Unsaid
returns-in-Unsaid c = as-text (sym (ap cast_form c.in-Unsaid.is)) c.text.ensures

pub returns-in-Saturated : goal.returns-in-Saturated
returns-in-Saturated c = as-text (sym (ap cast_form c.in-Saturated.is)) c.text-in-Saturated.ensures

pub returns-in-Truncated : goal.returns-in-Truncated
returns-in-Truncated c = as-text (sym (ap cast_form c.in-Truncated.is)) c.text-in-Truncated.ensures
