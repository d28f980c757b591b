-- `place::lacks_block` meets its contract.
use Prim.Native.Nat.{◌+◌}
use native.Mathlib.Omega.{arith}
use Rattle.receiver.proofs.Lacking.{block-asked, none-asked}
use Rattle.rules.specs.Blocks.{need}
use Rattle.receiver.proofs.place.lacks_block.Goals as goal

pub returns-then-needed : goal.returns-then-needed
returns-then-needed c =
    let a = c.args in
    let p = c.provide in
    block-asked (need a.n) (need (a.n + a.more)) _ _ _ _ p.result (omega (arith, c.if-needed.true, c.needed-2.ensures, c.needed.ensures)) p.ensures.0 p.ensures.1

pub returns : goal.returns
returns c =
    let a = c.args in
    none-asked (need a.n) (need (a.n + a.more)) _ _ _ (omega (arith, c.if-needed.false, c.needed-2.ensures, c.needed.ensures))
