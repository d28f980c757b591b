-- `put_hex` meets its contract.
use Rattle.digits.proofs.Puts.{digit-turn, digits-done}
use native.Mathlib.Omega.{arith}
use mathlib.Core.Path.{◌∙◌}
use Rattle.digits.proofs.put_hex.Goals as goal

pub loop-i-preserved : goal.loop-i-preserved
loop-i-preserved c =
    digit-turn 16 c.loop-i.out c.args.at c.loop-i.i c.loop-i.x _ c.loop-i-test.true (omega arith)
    c.hex_digit.ensures ∙ c.loop-i.invariant

pub returns : goal.returns
returns c =
    digits-done 16 c.loop-i.out _ c.args.at c.loop-i.i c.loop-i.x (omega arith) c.loop-i.invariant
