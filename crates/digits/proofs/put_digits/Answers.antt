-- `put_digits` meets its contract.
use Rattle.digits.proofs.Puts.{digit-turn, digits-done}
use Rattle.digits.proofs.Digits.{glyph-low}
use native.Mathlib.Omega.{arith}
use Prim.Native.Nat.{◌%◌}
use mathlib.Core.Path.{sym, ◌∙◌}
use Rattle.digits.proofs.put_digits.Goals as goal

pub loop-i-preserved : goal.loop-i-preserved
loop-i-preserved c =
    digit-turn 10 c.loop-i.out c.args.at c.loop-i.i c.loop-i.x _ c.loop-i-test.true (omega arith)
    (sym (glyph-low (c.loop-i.x % 10) (omega arith))) ∙ c.loop-i.invariant

pub returns : goal.returns
returns c =
    digits-done 10 c.loop-i.out _ c.args.at c.loop-i.i c.loop-i.x (omega arith) c.loop-i.invariant
