-- `initializer::integer_fits` meets its contract.
use Rattle.dsdl_type.proofs.Initializers.{decimal-digits, prefixed-digits, literal-requires, literal-held}
use Rattle.dsdl_number.proofs.Literals.{prefixed}
use Rattle.dsdl_text.proofs.Parts.{rest}
use lib.ListN.{length, take, drop, length-drop}
use Prim.Native.Nat.{◌-◌}
use mathlib.Core.Path.{refl, ap, ◌∙◌}
use native.Mathlib.Omega.{arith}
use Rattle.dsdl_type.proofs.initializer.integer_fits.Goals as goal

pub holds-requires : goal.holds-requires
holds-requires c =
    let a = c.args in
    let w = a.w.now in
    (c.requires.0, literal-requires w a.base c.requires.1.0 w (length w) (decimal-digits w a.base c.requires.1.0 c.if-base-eq10.true) refl c.requires.1.1)

pub returns-then-base-eq10 : goal.returns-then-base-eq10
returns-then-base-eq10 c =
    let a = c.args in
    let w = a.w.now in
    literal-held w a.base c.requires.1.0 w (length w) (decimal-digits w a.base c.requires.1.0 c.if-base-eq10.true) refl a.b a.negative _ c.holds.ensures

pub overflow_sub-m : goal.overflow_sub-m
overflow_sub-m c = prefixed c.args.w.now (λ z. c.if-base-eq10.false (c.requires.1.0 ∙ z)) (λ z. absurd (omega (arith, c.requires.1)))

pub slice_bounds-holds-count : goal.slice_bounds-holds-count
slice_bounds-holds-count c = prefixed c.args.w.now (λ z. c.if-base-eq10.false (c.requires.1.0 ∙ z)) (λ z. absurd (omega (arith, c.requires.1)))

pub slice_bounds-holds-start : goal.slice_bounds-holds-start
slice_bounds-holds-start c = prefixed c.args.w.now (λ z. c.if-base-eq10.false (c.requires.1.0 ∙ z)) (λ z. absurd (omega (arith, c.requires.1)))

pub holds-requires-2 : goal.holds-requires-2
holds-requires-2 c =
    let a = c.args in
    let w = a.w.now in
    (c.requires.0, literal-requires w a.base c.requires.1.0 (take (length w - 2) (drop 2 w)) (length w - 2) (prefixed-digits w a.base c.requires.1.0 c.if-base-eq10.false) (omega (arith, ap length (rest 2 w), length-drop 2 w)) c.requires.1.1)

pub returns : goal.returns
returns c =
    let a = c.args in
    let w = a.w.now in
    literal-held w a.base c.requires.1.0 (take (length w - 2) (drop 2 w)) (length w - 2) (prefixed-digits w a.base c.requires.1.0 c.if-base-eq10.false) (omega (arith, ap length (rest 2 w), length-drop 2 w)) a.b a.negative _ c.holds-2.ensures
