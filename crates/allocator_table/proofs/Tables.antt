-- Laws of tables.
use mathlib.Core.Path.{◌≡◌}
use mathlib.Core.Bool.{Bool, true, false}
use mathlib.Core.List.{List, [], ◌∷◌}
use Prim.Native.Nat.{ℕ, suc, ◌≤◌}
use native.Mathlib.Omega.{arith}
use lib.Dec.{ltb}
use lib.ListN.{length}
use Rattle.bits.proofs.Tabulate.{length-tabulate}
use Rattle.rules.specs.Tests.{pick}
use Rattle.allocator_table.specs.Layout.{entry_at, entry_count, table_of}
use Rattle.allocator_table.specs.Table.{Entry, place_for}

pub place-le : (u : ℕ) (t : List Entry) → place_for u t ≤ length t
unfolding place_for
place-le u [] = omega arith
place-le u (e ∷ t) = go (ltb e.unique u) (place-le u t) where
  go : (b : Bool) → place_for u t ≤ length t → pick b (suc (place_for u t)) 0 ≤ suc (length t)
  go true h = omega arith
  go false h = omega arith

pub length-table : (m : List ℕ) → length (table_of m) ≡ entry_count m
unfolding table_of
length-table m = length-tabulate (entry_at m) 0 (entry_count m)

pub place_in : (m : List ℕ) (u : ℕ) → place_for u (table_of m) ≤ entry_count m
place_in m u = omega (arith, place-le u (table_of m), length-table m)
