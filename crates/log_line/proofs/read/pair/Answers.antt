-- `read::pair` meets its contract.
use Rattle.log_line.proofs.Steps.{is, not, byte, no_byte, no-space, field_lt}
use Rattle.log_line.proofs.read.pair.Goals as goal
use native.Mathlib.Omega.{arith}
use Prim.Native.Nat.{◌+◌}
use mathlib.Core.Path.{◌∙◌}

pub returns-then-line-at-ne32 : goal.returns-then-line-at-ne32
returns-then-line-at-ne32 c = no-space c.args.line.now c.args.at c.if-line-at-ne32.true

pub returns-in_err-b : goal.returns-in_err-b
returns-in_err-b c =
    c.from_residual.ensures ∙ no_byte c.args.line.now c.args.at c.if-line-at-ne32.false (not _ c.in_err-b.ensures)

pub overflow_cast-result : goal.overflow_cast-result
overflow_cast-result c =
    omega (arith, field_lt 16 (omega arith) (omega arith) c.args.line.now (c.args.at + 1) 2 _ (omega (arith, c.requires)) (is _ _ c.in_ok-b.ensures))

pub returns : goal.returns
returns c =
    byte c.args.line.now c.args.at _ c.if-line-at-ne32.false (is _ _ c.in_ok-b.ensures)
