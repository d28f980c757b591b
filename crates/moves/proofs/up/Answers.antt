-- `up` meets its contract: the bytes from i on have moved.
use mathlib.Core.Path.{ap, ◌∙◌}
use mathlib.Core.List.{List}
use lib.ListN.{get_or, set}
use Prim.Native.Nat.{ℕ, ◌+◌, ◌-◌}
use native.Mathlib.Omega.{arith}
use Rattle.moves.proofs.Moved.{moved_more}
use Rattle.moves.proofs.up.Goals as goal

pub loop-i-preserved : goal.loop-i-preserved
loop-i-preserved c =
    let a = c.args in
    let j = c.loop-i.i - 1 in
    ap (λ (x : List ℕ). set x (a.at + a.by + j) (get_or x (a.at + j) 0)) c.loop-i.invariant
    ∙ moved_more a.s.now a.at a.by a.n (omega arith) c.loop-i.i j (omega arith) (omega arith) (omega arith)
