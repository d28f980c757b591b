use mathlib.Core.Path.{◌≡◌}
use Prim.Native.Nat.{◌+◌, ◌≤◌}
use lib.ListN.{drop}
use Rattle.keys.specs.inside.Keys as inside
use Rattle.keys.proofs.count.Given as goal

abbrev pub invariant-loop-x : goal.invariant-loop-x
invariant-loop-x l = (l.hits ≤ l.x-index) × (l.hits + inside.count l.k (drop l.x-index l.table) ≡ inside.count l.k l.table)
