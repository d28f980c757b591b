-- `write::put_time` meets its contract.
use mathlib.Core.Path.{refl}
use Prim.Native.Nat.{◌+◌}
use native.Mathlib.Omega.{arith}
use lib.ListN.{length-set}
use Rattle.log_line.proofs.Writing.{time-puts}
use Rattle.log_line.proofs.write.put_time.Goals as goal

pub put_digits-requires-2 : goal.put_digits-requires-2
put_digits-requires-2 c =
    simp length-set (omega (arith, c.put_digits.auto.out, c.count-w.ensures.0, c.requires))

pub shape_of-out : goal.shape_of-out
shape_of-out c =
    omega (arith, c.put_digits-2.auto.out, c.put_digits.auto.out, length-set c.put_digits.new.out (c.args.at + c.count-w.result) 46)

pub returns : goal.returns
returns c =
    let a = c.args in
    time-puts a.out.now c.put_digits.new.out _ c.put_digits-2.new.out a.at c.count-w.result a.time c.count-w.ensures.0 c.requires
    c.put_digits.auto.out c.put_digits.ensures refl c.put_digits-2.ensures
