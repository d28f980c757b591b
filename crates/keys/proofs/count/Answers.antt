-- `count` meets its contract: the hits so far and those to come.
use mathlib.Core.Path.{◌≡◌, ◌∙◌}
use mathlib.Core.List.{List}
use Prim.Native.Nat.{ℕ, suc, ◌+◌, ◌<◌}
use native.Mathlib.Numerals.{add-one}
use native.Mathlib.Omega.{arith}
use lib.Dec.{eqb}
use lib.ListN.{length, drop, get_or}
use lib.Seq.{drop-cons, drop-length}
use mir.Val.{bool_byte}
use Rattle.keys.specs.inside.Keys as inside
use Rattle.keys.proofs.Counts.{byte_le}
use Rattle.keys.proofs.count.Goals as goal

turn : (k hits j : ℕ) (table : List ℕ) → j < length table → hits + bool_byte (eqb (get_or table j 0) k) + inside.count k (drop (suc j) table) ≡ hits + inside.count k (drop j table)
unfolding inside.count
turn k hits j table h = rw (drop-cons table j 0) (omega arith)

done : (k hits j : ℕ) (table : List ℕ) → j ≡ length table → hits ≡ hits + inside.count k (drop j table)
unfolding inside.count
done k hits j table e = rw (e, drop-length) (omega arith)

pub loop-x-preserved : goal.loop-x-preserved
loop-x-preserved c =
    let a = c.args in
    let b = byte_le (eqb (get_or a.table.now c.loop-x.x-index 0) a.k) in
    (omega arith, rw add-one (turn a.k c.loop-x.hits c.loop-x.x-index a.table.now (omega arith) ∙ c.loop-x.invariant.1))

pub returns : goal.returns
returns c =
    let a = c.args in
    done a.k c.loop-x.hits c.loop-x.x-index a.table.now (omega arith) ∙ c.loop-x.invariant.1
