-- `progress` meets its contract: each field is read back.
use native.Mathlib.Omega.{arith}
use Rattle.judge_streams.proofs.Words.{byte_le, unpacked}
use Rattle.judge_streams.proofs.progress.Goals as goal

pub overflow_mul-result : goal.overflow_mul-result
overflow_mul-result c = omega (arith, byte_le c.args.k.toggle)

pub overflow_add-result-3 : goal.overflow_add-result-3
overflow_add-result-3 c = omega (arith, byte_le c.args.k.toggle)

pub overflow_add-result-4 : goal.overflow_add-result-4
overflow_add-result-4 c = omega (arith, byte_le c.args.k.toggle)

pub returns : goal.returns
returns c = unpacked c.args.k (omega arith) (omega arith) (omega arith) (omega arith) (omega arith)
