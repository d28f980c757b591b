-- `age_above` meets its contract: the difference is 0 where the time is the earlier one.
use mathlib.Core.Path.{sym}
use Prim.Native.Nat.{◌-◌}
use native.Mathlib.Omega.{arith}
use borrow.Author.Tests.{le-ltb}
use Rattle.session.proofs.age_above.Goals as goal

pub returns : goal.returns
returns c = let a = c.args in sym (le-ltb a.limit (a.time - a.since) (omega arith))
