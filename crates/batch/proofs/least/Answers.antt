-- `least` meets its contract.
use mathlib.Core.Path.{sym}
use native.Mathlib.Nat.{min-eq_left, min-eq_right}
use native.Mathlib.Omega.{arith}
use Rattle.batch.proofs.least.Goals as goal

pub returns-then-a-b : goal.returns-then-a-b
returns-then-a-b c = sym (min-eq_left (omega arith))

pub returns : goal.returns
returns c = sym (min-eq_right (omega arith))
