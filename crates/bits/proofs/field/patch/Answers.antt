-- `field::patch` meets its contract: the old field out, the new one in.
use Rattle.bits.proofs.Window.{patch-is}
use native.Mathlib.Omega.{arith}
use Rattle.bits.proofs.field.patch.Goals as goal

pub returns : goal.returns
returns c =
    let a = c.args in
    let e = patch-is a.x a.r a.k a.v (omega arith) (omega arith) c.requires.1.1 in
    cc
