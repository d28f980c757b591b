-- `size::write` meets its contract.
use mathlib.Core.Path.{sym}
use mathlib.Core.List.{◌++◌}
use Prim.Native.Nat.{◌-◌}
use native.Mathlib.Omega.{arith}
use lib.ListN.{length, take, drop}
use Rattle.digits.specs.Digits.{decimal}
use Rattle.dsdl_text.specs.Text.{chars}
use Rattle.dsdl_type.specs.Size.{bounds_of, items_by, bracket}
use Rattle.dsdl_form.proofs.Placements.{nothing, next, front, behind, as-text, fits-as}
use Rattle.dsdl_form.proofs.Sizes.{part_length, no-form, two-there, items-there, in-form}
use Rattle.dsdl_form.proofs.size.write.Goals as goal

pub returns-then-s-eq0 : goal.returns-then-s-eq0
returns-then-s-eq0 c = let a = c.args in as-text (no-form a.s.now c.if-s-eq0.true) (nothing a.out.now a.at)

pub slice_bounds-opening-count : goal.slice_bounds-opening-count
slice_bounds-opening-count c =
    omega (arith, two-there c.args.s.now c.if-s-eq0.false c.requires.1.0)

pub slice_bounds-opening-start : goal.slice_bounds-opening-start
slice_bounds-opening-start c =
    omega (arith, two-there c.args.s.now c.if-s-eq0.false c.requires.1.0)

pub opening-p-requires : goal.opening-p-requires
opening-p-requires c =
    let s = c.args.s.now in
    let i = take (length s - 1 - 1) (drop 1 s) in
    front c.args.at (bracket (bounds_of i)) (decimal (items_by (bounds_of i) i) ++ chars "]") (fits-as c.args.at (in-form s c.if-s-eq0.false c.requires.1.0) c.requires.1.1)

pub slice_bounds-items-count : goal.slice_bounds-items-count
slice_bounds-items-count c =
    omega (arith, two-there c.args.s.now c.if-s-eq0.false c.requires.1.0)

pub slice_bounds-items-start : goal.slice_bounds-items-start
slice_bounds-items-start c =
    omega (arith, two-there c.args.s.now c.if-s-eq0.false c.requires.1.0)

pub items-q-requires : goal.items-q-requires
items-q-requires c =
    let s = c.args.s.now in
    let i = take (length s - 1 - 1) (drop 1 s) in
    let n = items_by (bounds_of i) i in
    let f = behind (bracket (bounds_of i)) (decimal n ++ chars "]") c.opening-p.ensures (fits-as c.args.at (in-form s c.if-s-eq0.false c.requires.1.0) c.requires.1.1) in
    (part_length s (length s - 1 - 1) 1 c.requires.0, (items-there s c.if-s-eq0.false c.requires.1.0, front c.opening-p.result (decimal n) (chars "]") f))

pub text-requires : goal.text-requires
text-requires c =
    let s = c.args.s.now in
    let i = take (length s - 1 - 1) (drop 1 s) in
    let n = items_by (bounds_of i) i in
    let f = behind (bracket (bounds_of i)) (decimal n ++ chars "]") c.opening-p.ensures (fits-as c.args.at (in-form s c.if-s-eq0.false c.requires.1.0) c.requires.1.1) in
    behind (decimal n) (chars "]") c.items-q.ensures f

pub returns : goal.returns
returns c =
    let s = c.args.s.now in
    let i = take (length s - 1 - 1) (drop 1 s) in
    let n = items_by (bounds_of i) i in
    as-text (sym (in-form s c.if-s-eq0.false c.requires.1.0))
    (next (bracket (bounds_of i)) (decimal n ++ chars "]") c.opening-p.ensures (next (decimal n) (chars "]") c.items-q.ensures c.text.ensures))
