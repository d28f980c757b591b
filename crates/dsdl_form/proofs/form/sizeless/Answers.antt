-- `form::sizeless` meets its contract.
use mathlib.Core.Path.{sym}
use Rattle.dsdl.specs.Form.{cast_form}
use Rattle.dsdl_form.proofs.Placements.{next, front, behind, as-text, fits-as}
use Rattle.dsdl_form.proofs.Types.{nested, primitive}
use Rattle.dsdl_form.proofs.form.sizeless.Goals as goal

pub full_name-requires : goal.full_name-requires
full_name-requires c =
    fits-as c.args.at (sym (nested c.args.space.now c.args.c c.args.b.now c.read.ensures c.is_nested.ensures c.if-is_nested.true)) c.requires

pub returns-then-is_nested : goal.returns-then-is_nested
returns-then-is_nested c =
    as-text (nested c.args.space.now c.args.c c.args.b.now c.read.ensures c.is_nested.ensures c.if-is_nested.true) c.full_name.ensures

pub cast-p-requires : goal.cast-p-requires
cast-p-requires c =
    let e = primitive c.args.space.now c.args.c c.args.b.now c.read.ensures c.is_nested.ensures c.if-is_nested.false in
    front c.args.at (cast_form c.args.c) c.args.b.now (fits-as c.args.at (sym e) c.requires)

pub text-requires : goal.text-requires
text-requires c =
    let e = primitive c.args.space.now c.args.c c.args.b.now c.read.ensures c.is_nested.ensures c.if-is_nested.false in
    behind (cast_form c.args.c) c.args.b.now c.cast-p.ensures (fits-as c.args.at (sym e) c.requires)

pub returns : goal.returns
returns c =
    let e = primitive c.args.space.now c.args.c c.args.b.now c.read.ensures c.is_nested.ensures c.if-is_nested.false in
    as-text e (next (cast_form c.args.c) c.args.b.now c.cast-p.ensures c.text.ensures)
