-- `float::to_f32` meets its contract: 0x7FC00000 is the only pattern of a NaN that `widen` gives.
use mathlib.Core.Path.{◌≡◌, sym, ap, ◌∙◌, subst}
use mathlib.Core.Bool.{not}
use native.Mathlib.Omega.{arith}
use Prim.Native.Nat.{ℕ}
use lib.Dec.{T}
use lib.Ieee.{binary32, of_bits, nan_bits}
use Rattle.binary16.specs.Convert.{widened}
use Rattle.binary16.proofs.Real.{nan-made, nan-read, no-nan-in}
use Rattle.binary16.proofs.float.to_f32.Goals as goal

pub returns-then-w-eq2143289344 : goal.returns-then-w-eq2143289344
returns-then-w-eq2143289344 c =
    let e : widened c.args.h ≡ 0x7FC00000 = omega (arith, c.widen-w.ensures) in
    nan-made ∙ sym (ap (of_bits binary32) e ∙ nan-read)

pub float_from_bits-result : goal.float_from_bits-result
float_from_bits-result c =
    subst (λ (w : ℕ). T (not (nan_bits binary32 w))) (sym c.widen-w.ensures)
    (no-nan-in c.args.h (λ e. omega (arith, c.widen-w.ensures)))

pub returns : goal.returns
returns c = ap (of_bits binary32) c.widen-w.ensures
