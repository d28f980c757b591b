-- `cast::lowest` meets its contract.
use mathlib.Core.Path.{ap}
use native.Mathlib.Omega.{arith}
use Prim.Native.Nat.{ℕ, ◌%◌}
use Rattle.shape.proofs.CastFacts.{lowest-all}
use Rattle.shape.proofs.cast.lowest.Goals as goal

pub returns-then-x-top : goal.returns-then-x-top
returns-then-x-top c =
    let a = c.args in
    lowest-all a.w c.ones-top.result (omega arith) c.ones-top.ensures a.x c.if-x-top.true

pub returns : goal.returns
returns c = let a = c.args in ap (λ (k : ℕ). a.x % k) c.ones-top.ensures
