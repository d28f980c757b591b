-- `initializer::fits` meets its contract.
use Rattle.dsdl_type.proofs.Initializers.{nothing, in-quotes, behind-sign, no_sign}
use mathlib.Core.Path.{refl}
use Rattle.dsdl_type.proofs.initializer.fits.Goals as goal

pub returns-then-l-eq0 : goal.returns-then-l-eq0
returns-then-l-eq0 c = nothing c.args.b c.args.l.now c.if-l-eq0.true

pub returns-then-c-eq39 : goal.returns-then-c-eq39
returns-then-c-eq39 c =
    let a = c.args in
    in-quotes a.l.now _ refl a.b _ _ c.if-c-eq39.true c.quoted.ensures c.character_fits.ensures

pub returns-then-is_sign : goal.returns-then-is_sign
returns-then-is_sign c =
    let a = c.args in
    behind-sign a.l.now _ refl a.b c.if-c-eq39.false c.is_sign.result c.is_sign.ensures c.run-at.result _ c.if-is_sign.true
    c.run-at.ensures.0 c.last_fits.ensures

pub returns : goal.returns
returns c =
    let a = c.args in
    no_sign a.l.now _ refl a.b c.if-c-eq39.false c.is_sign.result c.is_sign.ensures _ c.if-is_sign.false c.last_fits-2.ensures
