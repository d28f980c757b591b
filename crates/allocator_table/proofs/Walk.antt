-- Walks over the entries of a table, from place i up to n.
use mathlib.Core.Path.{◌≡◌, ap, ◌∙◌}
use mathlib.Core.Bool.{true, false}
use mathlib.Core.List.{List, [], ◌∷◌}
use mathlib.Core.Option.{none, some}
use Prim.Native.Nat.{ℕ, suc, ◌-◌, ◌≤◌, ◌<◌}
use native.Mathlib.Nat.{sub-zero}
use native.Mathlib.Omega.{arith}
use lib.Dec.{eqb, ltb}
use Rattle.bits.specs.Tabulate.{tabulate}
use Rattle.allocator_table.specs.Layout.{unique_at, node_at, entry_at, entry_count, table_of}
use Rattle.allocator_table.specs.Table.{Entry, holds, node_of, place_for}

-- the entries that are left
abbrev pub rest : List ℕ → ℕ → ℕ → List Entry
rest m i n = tabulate (entry_at m) i (n - i)

-- the whole table
pub by_count : (m : List ℕ) (n : ℕ) → n ≡ entry_count m → rest m 0 n ≡ table_of m
unfolding table_of
by_count m n e = rw sub-zero (ap (tabulate (entry_at m) 0) e)

module _ (m : List ℕ) (i n : ℕ) where
  pub rest_end : n ≤ i → rest m i n ≡ []
  unfolding tabulate
  rest_end h = let k : n - i ≡ 0 = omega arith in rw k

  pub node-none : (u : ℕ) → n ≤ i → node_of u (rest m i n) ≡ none
  unfolding node_of
  node-none u h = ap (node_of u) (rest_end h)

  pub held_none : (x : ℕ) → n ≤ i → holds x (rest m i n) ≡ false
  unfolding holds
  held_none x h = ap (holds x) (rest_end h)

  pub place_none : (u : ℕ) → n ≤ i → place_for u (rest m i n) ≡ 0
  unfolding place_for
  place_none u h = ap (place_for u) (rest_end h)

  module _ (h : i < n) where
    pub rest-step : rest m i n ≡ entry_at m i ∷ rest m (suc i) n
    unfolding tabulate
    rest-step = let k : n - i ≡ suc (n - suc i) = omega arith in rw k

    pub node-hit : (u : ℕ) → eqb (unique_at m i) u ≡ true → node_of u (rest m i n) ≡ some (node_at m i)
    unfolding node_of
    node-hit u e = ap (node_of u) rest-step ∙ rw e

    pub node-miss : (u : ℕ) → eqb (unique_at m i) u ≡ false → node_of u (rest m i n) ≡ node_of u (rest m (suc i) n)
    unfolding node_of
    node-miss u e = ap (node_of u) rest-step ∙ rw e

    pub held-hit : (x : ℕ) → eqb (node_at m i) x ≡ true → holds x (rest m i n) ≡ true
    unfolding holds
    held-hit x e = ap (holds x) rest-step ∙ rw e

    pub held-miss : (x : ℕ) → eqb (node_at m i) x ≡ false → holds x (rest m i n) ≡ holds x (rest m (suc i) n)
    unfolding holds
    held-miss x e = ap (holds x) rest-step ∙ rw e

    pub place-hit : (u : ℕ) → ltb (unique_at m i) u ≡ false → place_for u (rest m i n) ≡ 0
    unfolding place_for
    place-hit u e = ap (place_for u) rest-step ∙ rw e

    pub place-miss : (u : ℕ) → ltb (unique_at m i) u ≡ true → place_for u (rest m i n) ≡ suc (place_for u (rest m (suc i) n))
    unfolding place_for
    place-miss u e = ap (place_for u) rest-step ∙ rw e
