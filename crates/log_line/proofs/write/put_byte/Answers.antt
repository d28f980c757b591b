-- `write::put_byte` meets its contract.
use mathlib.Core.Path.{refl}
use native.Mathlib.Omega.{arith}
use lib.ListN.{length-set}
use Rattle.log_line.proofs.Writing.{spaced}
use Rattle.log_line.proofs.write.put_byte.Goals as goal

pub put_hex-requires : goal.put_hex-requires
put_hex-requires c = simp length-set (omega (arith, c.requires))

pub shape_of-out : goal.shape_of-out
shape_of-out c =
    let a = c.args in
    omega (arith, c.put_hex.auto.out, length-set a.out.now a.at 32)

pub returns : goal.returns
returns c =
    let a = c.args in
    (spaced a.out.now _ c.put_hex.new.out a.at 2 a.b c.requires refl c.put_hex.ensures).out
