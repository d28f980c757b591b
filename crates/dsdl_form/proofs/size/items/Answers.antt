-- `size::items` meets its contract.
use mathlib.Core.Path.{sym, ap}
use Prim.Native.Nat.{◌-◌}
use native.Mathlib.Omega.{arith}
use lib.ListN.{length, take, drop}
use Rattle.digits.specs.Digits.{decimal}
use Rattle.dsdl_type.specs.Size.{count, bounds_of, items_by}
use Rattle.dsdl_type.proofs.Sizes.{told, one-there, two-there}
use Rattle.dsdl_form.proofs.Placements.{as-text}
use Rattle.dsdl_form.proofs.Sizes.{passed, part_length, exactly, below, at-most}
use Rattle.dsdl_form.proofs.size.items.Goals as goal

pub count-requires : goal.count-requires
count-requires c =
    let l = c.args.l.now in
    let e = exactly l (told l _ _ c.bounds_of.ensures c.in-Exactly.is) in
    (c.requires.0, (omega arith, passed (items_by (bounds_of l) l) (count l) 0 c.args.at e c.requires.1.0 c.requires.1.1))

pub slice_bounds-count-count : goal.slice_bounds-count-count
slice_bounds-count-count c =
    one-there c.args.l.now (told c.args.l.now _ _ c.bounds_of.ensures c.in-Below.is)

pub slice_bounds-count-start : goal.slice_bounds-count-start
slice_bounds-count-start c =
    one-there c.args.l.now (told c.args.l.now _ _ c.bounds_of.ensures c.in-Below.is)

pub count-requires-in-Below : goal.count-requires-in-Below
count-requires-in-Below c =
    let l = c.args.l.now in
    let e = below l (told l _ _ c.bounds_of.ensures c.in-Below.is) in
    (part_length l (length l - 1) 1 c.requires.0, (omega arith, passed (items_by (bounds_of l) l) (count (take (length l - 1) (drop 1 l))) 1 c.args.at e c.requires.1.0 c.requires.1.1))

pub slice_bounds-count-count-in-AtMost : goal.slice_bounds-count-count-in-AtMost
slice_bounds-count-count-in-AtMost c =
    two-there c.args.l.now (told c.args.l.now _ _ c.bounds_of.ensures c.in-AtMost.is)

pub slice_bounds-count-start-in-AtMost : goal.slice_bounds-count-start-in-AtMost
slice_bounds-count-start-in-AtMost c =
    two-there c.args.l.now (told c.args.l.now _ _ c.bounds_of.ensures c.in-AtMost.is)

pub count-requires-in-AtMost : goal.count-requires-in-AtMost
count-requires-in-AtMost c =
    let l = c.args.l.now in
    let e = at-most l (told l _ _ c.bounds_of.ensures c.in-AtMost.is) in
    (part_length l (length l - 2) 2 c.requires.0, (omega arith, passed (items_by (bounds_of l) l) (count (take (length l - 2) (drop 2 l))) 0 c.args.at e c.requires.1.0 c.requires.1.1))

pub returns-in-Exactly : goal.returns-in-Exactly
returns-in-Exactly c =
    as-text (ap decimal (sym (exactly c.args.l.now (told c.args.l.now _ _ c.bounds_of.ensures c.in-Exactly.is)))) c.count.ensures

pub returns-in-Below : goal.returns-in-Below
returns-in-Below c =
    as-text (ap decimal (sym (below c.args.l.now (told c.args.l.now _ _ c.bounds_of.ensures c.in-Below.is)))) c.count-in-Below.ensures

pub returns-in-AtMost : goal.returns-in-AtMost
returns-in-AtMost c =
    as-text (ap decimal (sym (at-most c.args.l.now (told c.args.l.now _ _ c.bounds_of.ensures c.in-AtMost.is)))) c.count-in-AtMost.ensures
