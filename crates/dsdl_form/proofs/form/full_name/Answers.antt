-- `form::full_name` meets its contract.
use mathlib.Core.Path.{sym}
use Rattle.dsdl_text.proofs.Choices.{by}
use Rattle.dsdl_form.proofs.Placements.{next, front, behind, as-text, fits-as}
use Rattle.dsdl_form.proofs.Types.{with-dot, without-dot}
use Rattle.dsdl_form.proofs.form.full_name.Goals as goal

pub text-requires : goal.text-requires
text-requires c =
    fits-as c.args.at (sym (with-dot c.args.space.now c.args.b.now (by c.has_dot.ensures c.if-has_dot.true))) c.requires

pub returns-then-has_dot : goal.returns-then-has_dot
returns-then-has_dot c =
    as-text (with-dot c.args.space.now c.args.b.now (by c.has_dot.ensures c.if-has_dot.true)) c.text.ensures

pub text-p-requires : goal.text-p-requires
text-p-requires c = let a = c.args in
    let e = without-dot a.space.now a.b.now (by c.has_dot.ensures c.if-has_dot.false) in
    front a.at a.space.now a.b.now (fits-as a.at (sym e) c.requires)

pub text-requires-2 : goal.text-requires-2
text-requires-2 c =
    let e = without-dot c.args.space.now c.args.b.now (by c.has_dot.ensures c.if-has_dot.false) in
    behind c.args.space.now c.args.b.now c.text-p.ensures (fits-as c.args.at (sym e) c.requires)

pub returns : goal.returns
returns c =
    let e = without-dot c.args.space.now c.args.b.now (by c.has_dot.ensures c.if-has_dot.false) in
    as-text e (next c.args.space.now c.args.b.now c.text-p.ensures c.text-2.ensures)
