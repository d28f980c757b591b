-- `initializer::floating_fits` meets its contract.
use Rattle.dsdl_type.proofs.Initializers.{in-text, floating-requires, floating-held}
use lib.ListN.{length-take}
use Prim.Native.Nat.{◌+◌, ◌-◌}
use mathlib.Core.Path.{◌≡◌, refl}
use native.Mathlib.Omega.{arith}
use Rattle.dsdl_type.proofs.initializer.floating_fits.Goals as goal

pub holds-requires : goal.holds-requires
holds-requires c =
    let a = c.args in
    let w = a.w.now in
    let e = c.run-before.result + c.with_point.result in
    let z : e - 0 ≡ e = omega arith in
    (c.requires, (omega (arith, length-take (e - 0) w, in-text w c.run-before.result c.fraction_length-behind.result c.with_point.result c.run-before.ensures.1 c.fraction_length-behind.ensures.1 c.with_point.ensures), (floating-requires w c.run-before.result c.fraction_length-behind.result c.with_point.result (e - 0) c.run-before.ensures.0 c.fraction_length-behind.ensures.0 c.with_point.ensures z, refl)))

pub returns : goal.returns
returns c =
    let a = c.args in
    let w = a.w.now in
    let e = c.run-before.result + c.with_point.result in
    let z : e - 0 ≡ e = omega arith in
    floating-held w c.run-before.result c.fraction_length-behind.result c.with_point.result (e - 0) c.run-before.ensures.0 c.fraction_length-behind.ensures.0 c.with_point.ensures z c.whole_digits-n.result c.whole_digits-n.ensures a.negative a.b _ c.requires c.holds.ensures
