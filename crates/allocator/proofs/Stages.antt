-- The stages of a unique ID, case by case.
use mathlib.Core.Path.{◌≡◌, refl, sym}
use mathlib.Core.Bool.{Bool, true, false, ◌||◌}
use mathlib.Core.List.{List}
use Prim.Native.Nat.{ℕ, ◌+◌, ◌-◌, ◌≤◌, ◌<◌}
use native.Mathlib.Omega.{arith}
use borrow.Author.Tests.{eq-eqb, ne_eqb, eqb-true, eqb-false, ltb-true, ltb-false, le-leb, lt-leb, leb-true, leb-false, lt-ltb, le-ltb}
use lib.Dec.{eqb, ltb, leb}
use Rattle.rules.specs.Tests.{pick}
use Rattle.allocator_table.specs.Layout.{gathered_count, time_of}
use Rattle.allocator_table.specs.Limits.{unique_id_max, node_max, followup_timeout}
use Rattle.allocator.specs.Stage.{stage_of, expected_at, accepts, kept_at, preferred}

-- ── the stage of a message ──

module _ (first n : ℕ) where
  pub no_size : (eqb n 6 || (eqb n 4 || eqb n 16)) ≡ false → 0 ≡ stage_of first n
  unfolding stage_of
  no_size s = rw s

  module _ (s : (eqb n 6 || (eqb n 4 || eqb n 16)) ≡ true) where
    pub first-stage : first ≡ 1 → 1 ≡ stage_of first n
    unfolding stage_of
    first-stage f = rw (s, eq-eqb first 1 f)

    module _ (f : first ≡ 1 → ⊥) where
      pub second-stage : n ≡ 6 → 2 ≡ stage_of first n
      unfolding stage_of
      second-stage e = rw (s, ne_eqb first 1 f, eq-eqb n 6 e)

      module _ (e : n ≡ 6 → ⊥) where
        pub third-stage : n < 6 → 3 ≡ stage_of first n
        unfolding stage_of
        third-stage l = rw (s, ne_eqb first 1 f, ne_eqb n 6 e, lt-ltb n 6 l)

        pub no-stage : 6 ≤ n → 0 ≡ stage_of first n
        unfolding stage_of
        no-stage l = rw (s, ne_eqb first 1 f, ne_eqb n 6 e, le-ltb n 6 l)

-- ── the stage that is expected ──

module _ (n : ℕ) where
  pub expects-first : n ≡ 0 → 1 ≡ expected_at n
  unfolding expected_at
  expects-first z = rw (eq-eqb n 0 z)

  module _ (z : n ≡ 0 → ⊥) where
    pub expects-third : 12 ≤ n → 3 ≡ expected_at n
    unfolding expected_at
    expects-third l = rw (ne_eqb n 0 z, le-leb 12 n l)

    module _ (l : n < 12) where
      pub expects-second : 6 ≤ n → 2 ≡ expected_at n
      unfolding expected_at
      expects-second k = rw (ne_eqb n 0 z, lt-leb 12 n l, le-leb 6 n k)

      pub expects-none : n < 6 → 0 ≡ expected_at n
      unfolding expected_at
      expects-none k = rw (ne_eqb n 0 z, lt-leb 12 n l, lt-leb 6 n k)

-- ── the message that is expected ──

module _ (first k n : ℕ) where
  pub refuses-none : stage_of first k ≡ 0 → false ≡ accepts first k n
  unfolding accepts
  refuses-none z = rw (le-ltb 0 (stage_of first k) (omega arith))

  module _ (z : stage_of first k ≡ 0 → ⊥) where
    pub refuses-other : (stage_of first k ≡ expected_at n → ⊥) → false ≡ accepts first k n
    unfolding accepts
    refuses-other o = rw (lt-ltb 0 (stage_of first k) (omega (arith, z)), ne_eqb (stage_of first k) (expected_at n) o)

    pub by-room : stage_of first k ≡ expected_at n → n ≤ unique_id_max → leb k (unique_id_max - n) ≡ accepts first k n
    unfolding accepts
    by-room o l = rw (lt-ltb 0 (stage_of first k) (omega (arith, z)), eq-eqb (stage_of first k) (expected_at n) o) (go (leb k (unique_id_max - n)) refl) where
      go : (b : Bool) → leb k (unique_id_max - n) ≡ b → b ≡ leb (n + k) unique_id_max
      go true e = sym (le-leb (n + k) unique_id_max (omega (arith, leb-true k (unique_id_max - n) e)))
      go false e = sym (lt-leb (n + k) unique_id_max (omega (arith, leb-false k (unique_id_max - n) e)))

-- ── the follow-up timeout ──

module _ (m : List ℕ) (t : ℕ) where
  pub kept-all : t - time_of m ≤ followup_timeout → gathered_count m ≡ kept_at m t
  unfolding kept_at
  kept-all h = rw (le-ltb followup_timeout (t - time_of m) h)

  pub kept-none : followup_timeout < t - time_of m → 0 ≡ kept_at m t
  unfolding kept_at
  kept-none h = rw (lt-ltb followup_timeout (t - time_of m) h)

  pub kept-le : kept_at m t ≤ gathered_count m
  unfolding kept_at
  kept-le = go (ltb followup_timeout (t - time_of m)) where
    go : (b : Bool) → pick b 0 (gathered_count m) ≤ gathered_count m
    go true = omega arith
    go false = omega arith

-- ── the preferred node ID ──

module _ (p : ℕ) where
  pub prefers-any : p ≡ 0 → node_max ≡ preferred p
  unfolding preferred
  prefers-any z = rw (eq-eqb p 0 z)

  module _ (z : p ≡ 0 → ⊥) where
    pub prefers-last : node_max < p → node_max ≡ preferred p
    unfolding preferred
    prefers-last l = rw (ne_eqb p 0 z, lt-ltb node_max p l)

    pub prefers-it : p ≤ node_max → p ≡ preferred p
    unfolding preferred
    prefers-it l = rw (ne_eqb p 0 z, le-ltb node_max p l)

pub preferred-le : (p : ℕ) → preferred p ≤ node_max
preferred-le p = any (eqb p 0) refl (ltb node_max p) refl where
  any : (a : Bool) → eqb p 0 ≡ a → (b : Bool) → ltb node_max p ≡ b → preferred p ≤ node_max
  any true z b l = omega (arith, prefers-any p (eqb-true p 0 z))
  any false z true l = omega (arith, prefers-last p (eqb-false p 0 z) (ltb-true node_max p l))
  any false z false l = omega (arith, prefers-it p (eqb-false p 0 z) (ltb-false node_max p l), ltb-false node_max p l)
