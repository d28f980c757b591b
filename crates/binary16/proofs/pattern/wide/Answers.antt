-- `pattern::wide` meets its contract: normal, zero and subnormal.
use mathlib.Core.Path.{◌≡◌, sym, ap, ◌∙◌}
use native.Mathlib.Omega.{arith}
use Rattle.binary16.specs.Convert.{widened_code}
use Rattle.binary16.proofs.Wide.{wide-zero}
use Rattle.binary16.proofs.Steps.{wide-normal, wide_low}
use Rattle.binary16.proofs.pattern.wide.Goals as goal

pub returns-then-c-ge1024 : goal.returns-then-c-ge1024
returns-then-c-ge1024 c = (wide-normal c.args.c (omega arith), omega arith)

pub returns-then-c-eq0 : goal.returns-then-c-eq0
returns-then-c-eq0 c = let e : c.args.c ≡ 0 = omega arith in (sym (ap widened_code e ∙ wide-zero), omega arith)

pub overflow_sub-result : goal.overflow_sub-result
overflow_sub-result c = omega (arith, wide_low c.args.c (omega arith) (omega arith))

pub overflow_sub-result-2 : goal.overflow_sub-result-2
overflow_sub-result-2 c = omega (arith, wide_low c.args.c (omega arith) (omega arith))

pub overflow_shl-result : goal.overflow_shl-result
overflow_shl-result c = omega (arith, wide_low c.args.c (omega arith) (omega arith))

pub overflow_add-result-2 : goal.overflow_add-result-2
overflow_add-result-2 c = omega (arith, wide_low c.args.c (omega arith) (omega arith))

pub returns : goal.returns
returns c = (omega (arith, wide_low c.args.c (omega arith) (omega arith)), omega (arith, wide_low c.args.c (omega arith) (omega arith)))
