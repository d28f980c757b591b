-- `size::unsigned` meets its contract.
use mathlib.Core.Path.{◌≡◌, sym, ◌∙◌}
use mathlib.Core.List.{List}
use Prim.Native.Nat.{ℕ, ◌-◌, ◌≤◌, ◌<◌}
use native.Mathlib.Omega.{arith}
use lib.ListN.{length}
use Rattle.dsdl_number.specs.Integer.{base_of}
use Rattle.dsdl_number.proofs.Literals.{prefixed}
use Rattle.dsdl_type.specs.Size.{unsigned}
use Rattle.dsdl_form.proofs.Placements.{as-text}
use Rattle.dsdl_form.proofs.Sizes.{based, asked, as-literal, all_digits, behind-prefix, part_length}
use Rattle.dsdl_form.proofs.size.unsigned.Goals as goal

-- the prefix is there
two : (l : List ℕ) (b less : ℕ) → b ≡ base_of l → (b ≡ 10 → ⊥) → less < unsigned l → 2 ≤ length l
two l b less e t h = prefixed l (λ z. t (e ∙ z)) (λ z. omega (arith, based l (omega (arith, h))))

pub number-requires : goal.number-requires
number-requires c = let l = c.args.l.now in
    let t = c.if-b-eq10.true in
    let e = c.in-Some.ensures.0 in
    (c.requires.0, asked l l 10 c.args.less (sym t ∙ e) (all_digits l _ e t) c.requires.1.1.0 c.args.at c.requires.1.0 c.requires.1.1.1)

pub returns-then-b-eq10 : goal.returns-then-b-eq10
returns-then-b-eq10 c = let l = c.args.l.now in
    let t = c.if-b-eq10.true in
    let e = c.in-Some.ensures.0 in
    as-text (as-literal l l 10 c.args.less (sym t ∙ e) (all_digits l _ e t) c.requires.1.1.0) c.number.ensures

pub slice_bounds-number-count : goal.slice_bounds-number-count
slice_bounds-number-count c = two c.args.l.now c.in-Some.b c.args.less c.in-Some.ensures.0 c.if-b-eq10.false c.requires.1.1.0

pub slice_bounds-number-start : goal.slice_bounds-number-start
slice_bounds-number-start c = two c.args.l.now c.in-Some.b c.args.less c.in-Some.ensures.0 c.if-b-eq10.false c.requires.1.1.0

pub number-requires-2 : goal.number-requires-2
number-requires-2 c = let l = c.args.l.now in
    let e = c.in-Some.ensures.0 in
    let d = behind-prefix l _ e c.if-b-eq10.false in
    (part_length l (length l - 2) 2 c.requires.0, asked l _ _ c.args.less e d c.requires.1.1.0 c.args.at c.requires.1.0 c.requires.1.1.1)

pub returns : goal.returns
returns c =
    let l = c.args.l.now in
    let e = c.in-Some.ensures.0 in
    as-text (as-literal l _ _ c.args.less e (behind-prefix l _ e c.if-b-eq10.false) c.requires.1.1.0) c.number-2.ensures
