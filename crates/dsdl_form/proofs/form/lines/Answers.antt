-- `form::lines` meets its contract.
use mathlib.Core.Path.{sym, ap, ◌∙◌}
use mathlib.Core.List.{[], append-nil}
use Prim.Native.Nat.{◌-◌}
use native.Mathlib.Omega.{arith}
use Rattle.bits.specs.Part.{span}
use Rattle.dsdl_text.specs.inside.Lines.{after_end}
use Rattle.dsdl_line.specs.Line.{line_of}
use Rattle.dsdl.specs.Definition.{lines_of}
use Rattle.dsdl.specs.Form.{line_form, lines_form}
use Rattle.dsdl_form.proofs.Placements.{all_left, less-left, none_left, left-fits, left_as}
use Rattle.dsdl_form.proofs.Sizes.{part_length}
use Rattle.dsdl_form.proofs.Forms.{onward, one_line, final-line}
use Rattle.dsdl_form.proofs.form.lines.Goals as goal

pub end-end-requires : goal.end-end-requires
end-end-requires c = omega arith

pub loop-end-init : goal.loop-end-init
loop-end-init c = let e = c.end-end.ensures in
    (e.0, (e.1.0, (e.1.1, all_left c.args.out.now c.args.at (lines_form c.args.space.now (lines_of c.args.text.now)))))

pub slice_bounds-added-count : goal.slice_bounds-added-count
slice_bounds-added-count c = omega arith

pub slice_bounds-added-start : goal.slice_bounds-added-start
slice_bounds-added-start c = omega arith

pub slice_bounds-added-end : goal.slice_bounds-added-end
slice_bounds-added-end c = omega arith

pub added-p-requires : goal.added-p-requires
added-p-requires c = let s = c.args.space.now in
    let t = c.args.text.now in
    let i = c.loop-end.invariant in
    let x = line_form s (line_of (span t c.loop-end.from (c.loop-end.end - c.loop-end.from))) in
    let r = onward s t (after_end t c.loop-end.end) in (
      part_length t (c.loop-end.end - c.loop-end.from) c.loop-end.from c.requires.0,
      left-fits x r (left_as (one_line s t c.loop-end.from c.loop-end.end i.0 c.loop-end-test.true) i.1.1.1) c.requires.1,
    )

pub next-from-requires : goal.next-from-requires
next-from-requires c = c.loop-end-test.true

pub end-end-requires-in-loop-end : goal.end-end-requires-in-loop-end
end-end-requires-in-loop-end c = c.next-from.ensures.1.1

pub loop-end-smaller : goal.loop-end-smaller
loop-end-smaller c =
    omega (arith, c.next-from.ensures.1.0, c.next-from.ensures.1.1, c.loop-end.invariant.1.0)

pub loop-end-preserved : goal.loop-end-preserved
loop-end-preserved c =
    let s = c.args.space.now in
    let t = c.args.text.now in
    let i = c.loop-end.invariant in
    let x = line_form s (line_of (span t c.loop-end.from (c.loop-end.end - c.loop-end.from))) in
    let r = onward s t (after_end t c.loop-end.end) in
    let e = c.end-end-in-loop-end.ensures in
    let f = less-left x r (left_as (one_line s t c.loop-end.from c.loop-end.end i.0 c.loop-end-test.true) i.1.1.1) c.added-p.ensures in
    (e.0, (e.1.0, (e.1.1, left_as (ap (onward s t) (sym c.next-from.ensures.0)) f)))

pub slice_bounds-added-count-2 : goal.slice_bounds-added-count-2
slice_bounds-added-count-2 c = omega arith

pub slice_bounds-added-start-2 : goal.slice_bounds-added-start-2
slice_bounds-added-start-2 c = omega arith

pub slice_bounds-added-end-2 : goal.slice_bounds-added-end-2
slice_bounds-added-end-2 c = omega arith

pub added-requires : goal.added-requires
added-requires c = let s = c.args.space.now in
    let t = c.args.text.now in
    let i = c.loop-end.invariant in
    let x = line_form s (line_of (span t c.loop-end.from (c.loop-end.end - c.loop-end.from))) in
    let f = left_as (final-line s t c.loop-end.from c.loop-end.end i.0 c.loop-end-test.false) i.1.1.1 in
    (part_length t (c.loop-end.end - c.loop-end.from) c.loop-end.from c.requires.0, left-fits x [] (left_as (sym (append-nil x)) f) c.requires.1)

pub shape_of-out : goal.shape_of-out
shape_of-out c = c.added.auto.out ∙ c.loop-end.invariant.1.1.1.same

pub returns : goal.returns
returns c =
    let s = c.args.space.now in
    let t = c.args.text.now in
    let i = c.loop-end.invariant in
    let x = line_form s (line_of (span t c.loop-end.from (c.loop-end.end - c.loop-end.from))) in
    none_left x (left_as (final-line s t c.loop-end.from c.loop-end.end i.0 c.loop-end-test.false) i.1.1.1) c.added.ensures
