-- `size::opening` meets its contract.
use mathlib.Core.Path.{sym, ap}
use Rattle.dsdl_type.proofs.Sizes.{told}
use Rattle.dsdl_type.specs.Size.{bracket}
use Rattle.dsdl_form.proofs.Placements.{fits-as, as-text}
use Rattle.dsdl_form.proofs.size.opening.Goals as goal

pub text-requires : goal.text-requires
text-requires c =
    fits-as c.args.at (ap bracket (told c.args.l.now _ _ c.bounds_of.ensures c.in-Exactly.is)) c.requires

pub text-requires-in-Below : goal.text-requires-in-Below
text-requires-in-Below c =
    fits-as c.args.at (ap bracket (told c.args.l.now _ _ c.bounds_of.ensures c.in-Below.is)) c.requires

pub text-requires-in-AtMost : goal.text-requires-in-AtMost
text-requires-in-AtMost c =
    fits-as c.args.at (ap bracket (told c.args.l.now _ _ c.bounds_of.ensures c.in-AtMost.is)) c.requires

pub returns-in-Exactly : goal.returns-in-Exactly
returns-in-Exactly c =
    as-text (sym (ap bracket (told c.args.l.now _ _ c.bounds_of.ensures c.in-Exactly.is))) c.text.ensures

pub returns-in-Below : goal.returns-in-Below
returns-in-Below c =
    as-text (sym (ap bracket (told c.args.l.now _ _ c.bounds_of.ensures c.in-Below.is))) c.text-in-Below.ensures

pub returns-in-AtMost : goal.returns-in-AtMost
returns-in-AtMost c =
    as-text (sym (ap bracket (told c.args.l.now _ _ c.bounds_of.ensures c.in-AtMost.is))) c.text-in-AtMost.ensures
