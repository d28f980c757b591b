-- `form::added` meets its contract.
use mathlib.Core.Path.{sym}
use Rattle.dsdl_form.proofs.Placements.{nothing, as-text, fits-as}
use Rattle.dsdl_form.proofs.Words.{shorter}
use Rattle.dsdl_form.proofs.Forms.{of-nothing, of-marker, of-union, of-padding, of_field, of-constant, of-wrong, sized}
use Rattle.dsdl_form.proofs.form.added.Goals as goal

pub text-requires : goal.text-requires
text-requires c =
    fits-as c.args.at (sym (of-marker c.args.space.now c.args.l.now c.read.result c.read.ensures c.in-Marker.is)) c.requires.1

pub text-requires-in-Union : goal.text-requires-in-Union
text-requires-in-Union c =
    fits-as c.args.at (sym (of-union c.args.space.now c.args.l.now c.read.result c.read.ensures c.in-Union.is)) c.requires.1

pub padding-requires : goal.padding-requires
padding-requires c =
    let s = c.args.space.now in
    let e = of-padding s c.args.l.now c.read.result c.read.ensures _ c.word_of.result.now c.in-Padding.is c.word_of.ensures in
    fits-as c.args.at (sym e) c.requires.1

pub field-requires : goal.field-requires
field-requires c =
    let s = c.args.space.now in
    let l = c.args.l.now in
    let v = c.word_of-in-Field.result.now in
    let e = of_field s l c.read.result c.read.ensures _ _ _ v c.word_of-in-Field-2.result.now c.in-Field.is c.word_of-in-Field.ensures c.word_of-in-Field-2.ensures in (
      shorter l c.in-Field.w v c.word_of-in-Field.ensures c.requires.0,
      (sized s l c.read.result c.read.ensures _ _ _ v c.in-Field.is c.word_of-in-Field.ensures, fits-as c.args.at (sym e) c.requires.1),
    )

pub returns-in-Nothing : goal.returns-in-Nothing
returns-in-Nothing c =
    as-text (of-nothing c.args.space.now c.args.l.now c.read.result c.read.ensures c.in-Nothing.is) (nothing c.args.out.now c.args.at)

pub returns-in-Marker : goal.returns-in-Marker
returns-in-Marker c =
    as-text (of-marker c.args.space.now c.args.l.now c.read.result c.read.ensures c.in-Marker.is) c.text.ensures

pub returns-in-Union : goal.returns-in-Union
returns-in-Union c =
    as-text (of-union c.args.space.now c.args.l.now c.read.result c.read.ensures c.in-Union.is) c.text-in-Union.ensures

pub returns-in-Padding : goal.returns-in-Padding
returns-in-Padding c =
    let s = c.args.space.now in
    as-text (of-padding s c.args.l.now c.read.result c.read.ensures _ c.word_of.result.now c.in-Padding.is c.word_of.ensures) c.padding.ensures

pub returns-in-Field : goal.returns-in-Field
returns-in-Field c =
    let s = c.args.space.now in
    let l = c.args.l.now in
    as-text (of_field s l c.read.result c.read.ensures _ _ _ c.word_of-in-Field.result.now c.word_of-in-Field-2.result.now c.in-Field.is c.word_of-in-Field.ensures c.word_of-in-Field-2.ensures) c.field.ensures

pub returns-in-Constant : goal.returns-in-Constant
returns-in-Constant c =
    as-text (of-constant c.args.space.now c.args.l.now c.read.result c.read.ensures _ _ _ c.in-Constant.is) (nothing c.args.out.now c.args.at)

pub returns-in-Wrong : goal.returns-in-Wrong
returns-in-Wrong c =
    as-text (of-wrong c.args.space.now c.args.l.now c.read.result c.read.ensures c.in-Wrong.is) (nothing c.args.out.now c.args.at)
