-- `is_full` meets its contract.
use mathlib.Core.Path.{sym, ap}
use mathlib.Core.Bool.{Bool, ◌&&◌}
use Prim.Native.Nat.{◌+◌}
use native.Mathlib.Omega.{arith}
use borrow.Author.Tests.{lt-ltb, le-ltb}
use lib.Dec.{ltb}
use Rattle.rules.specs.Limits.{payload_max}
use Rattle.batch.proofs.is_full.Goals as goal

pub returns-then-len-gt0 : goal.returns-then-len-gt0
returns-then-len-gt0 c =
    let a = c.args in
    ap (λ (b : Bool). b && ltb a.room (a.past + payload_max)) (sym (lt-ltb 0 a.len (omega arith)))

pub returns : goal.returns
returns c =
    let a = c.args in
    ap (λ (b : Bool). b && ltb a.room (a.past + payload_max)) (sym (le-ltb 0 a.len (omega arith)))
