-- `sends::part_end` meets its contract.
use native.Mathlib.Omega.{arith}
use mathlib.Core.Logic.{inl, inr}
use mathlib.Core.Path.{refl}
use Rattle.allocatee.proofs.sends.part_end.Goals as goal

pub returns-then-at-lt-STAGE : goal.returns-then-at-lt-STAGE
returns-then-at-lt-STAGE c = inl (refl, omega arith)

pub returns : goal.returns
returns c = inr (refl, omega arith)
