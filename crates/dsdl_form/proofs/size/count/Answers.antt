-- `size::count` meets its contract.
use mathlib.Core.Path.{sym, ap}
use Prim.Native.Nat.{ℕ, ◌-◌}
use native.Mathlib.Omega.{arith}
use lib.ListN.{length, take, drop}
use Rattle.digits.specs.Digits.{decimal}
use Rattle.dsdl_type.specs.Size.{unsigned, count}
use Rattle.dsdl_form.proofs.Placements.{as-text}
use Rattle.dsdl_form.proofs.Sizes.{passed, part_length, one-there, with-plus, no_plus}
use Rattle.dsdl_form.proofs.size.count.Goals as goal

pub bounds-l-0 : goal.bounds-l-0
bounds-l-0 c =
    omega (arith, one-there c.args.l.now c.args.less c.requires.1.1.0)

pub slice_bounds-unsigned-count : goal.slice_bounds-unsigned-count
slice_bounds-unsigned-count c =
    one-there c.args.l.now c.args.less c.requires.1.1.0

pub slice_bounds-unsigned-start : goal.slice_bounds-unsigned-start
slice_bounds-unsigned-start c =
    one-there c.args.l.now c.args.less c.requires.1.1.0

pub unsigned-requires : goal.unsigned-requires
unsigned-requires c =
    let l = c.args.l.now in
    let u = unsigned (take (length l - 1) (drop 1 l)) in
    let p = passed (count l - c.args.less) u c.args.less c.args.at (ap (λ (k : ℕ). k - c.args.less) (with-plus l c.if-l-eq43.true)) (omega (arith, c.requires.1.1.0)) c.requires.1.1.1 in
    (part_length l (length l - 1) 1 c.requires.0, (c.requires.1.0, p))

pub returns-then-l-eq43 : goal.returns-then-l-eq43
returns-then-l-eq43 c =
    as-text (ap (λ (k : ℕ). decimal (k - c.args.less)) (sym (with-plus c.args.l.now c.if-l-eq43.true))) c.unsigned.ensures

pub unsigned-requires-2 : goal.unsigned-requires-2
unsigned-requires-2 c =
    let l = c.args.l.now in
    let p = passed (count l - c.args.less) (unsigned l) c.args.less c.args.at (ap (λ (k : ℕ). k - c.args.less) (no_plus l c.if-l-eq43.false)) (omega (arith, c.requires.1.1.0)) c.requires.1.1.1 in
    (c.requires.0, (c.requires.1.0, p))

pub returns : goal.returns
returns c =
    as-text (ap (λ (k : ℕ). decimal (k - c.args.less)) (sym (no_plus c.args.l.now c.if-l-eq43.false))) c.unsigned-2.ensures
