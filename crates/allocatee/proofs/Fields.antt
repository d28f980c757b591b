-- What of a state stays and what changes as it is written.
use mathlib.Core.Path.{◌≡◌, sym, ap, ◌∙◌}
use mathlib.Core.Bool.{true}
use mathlib.Core.List.{List, ◌++◌}
use Prim.Native.Nat.{ℕ, ◌+◌, ◌/◌, ◌%◌, ◌≤◌, ◌<◌}
use native.Mathlib.Omega.{arith}
use borrow.Author.Tests.{le-leb}
use lib.ListN.{length, take, drop, get_or}
use lib.Seq.{take-append-le, take-take, length-take-le, get_or-take, get_or-set_same, take-set-le}
use Rattle.bits.specs.Little.{le_bytes}
use Rattle.bits.specs.Part.{splice}
use Rattle.bits.proofs.Little.{length-le_bytes}
use Rattle.bits.proofs.Splice.{length-splice}
use Rattle.allocatee.specs.Layout.{preferred_at, node_at, pending_at, since_at, period_at, delay_at, size, unique_of, preferred_of, node_of, pending_of, sound_state, with_node, with_pending, with_timer}
use Rattle.allocatee.specs.Limits.{unique_id_max, node_max}
use Rattle.allocatee.proofs.Views.{by-pending, length-pending, length-timer}

take-front : (m : List ℕ) (n at : ℕ) (ys : List ℕ) → n ≤ at → at ≤ length m → take n (splice m at ys) ≡ take n m
take-front m n at ys h l = take-append-le n (take at m) (ys ++ drop (at + length ys) m) (omega (arith, length-take-le at m l)) ∙ take-take n at m h

-- states with the same first bytes
module _ (m m' : List ℕ) (n : ℕ) (e : take n m' ≡ take n m) where
  same-unique : unique_id_max ≤ n → unique_of m' ≡ unique_of m
  unfolding unique_of
  same-unique h = sym (take-take unique_id_max n m' h) ∙ ap (take unique_id_max) e ∙ take-take unique_id_max n m h

  same_at : (i : ℕ) → i < n → get_or m' i 0 ≡ get_or m i 0
  same_at i h = sym (get_or-take n m' i 0 h) ∙ ap (λ l. get_or l i 0) e ∙ get_or-take n m i 0 h

module _ (m : List ℕ) (t x : ℕ) (h : size ≤ length m) where
  head-timer : take since_at (with_timer m t x) ≡ take since_at m
  unfolding with_timer
  head-timer =
      let a = le_bytes 8 t in
      let b = le_bytes 4 (x % 4294967296) in
      let m₁ = splice m since_at a in
      let l₁ : length m₁ ≡ length m = length-splice m since_at a (omega (arith, length-le_bytes 8 t)) in
      let l₂ : length (splice m₁ period_at b) ≡ length m = length-splice m₁ period_at b (omega (arith, length-le_bytes 4 (x % 4294967296), l₁)) ∙ l₁ in
      take-front (splice m₁ period_at b) since_at delay_at (le_bytes 4 (x / 4294967296)) (omega arith) (omega (arith, l₂))
      ∙ take-front m₁ since_at period_at b (omega arith) (omega (arith, l₁)) ∙ take-front m since_at since_at a (omega arith) (omega arith)

  pub unique-timer : unique_of (with_timer m t x) ≡ unique_of m
  unique-timer = same-unique m (with_timer m t x) since_at head-timer (omega arith)

  pub preferred-timer : preferred_of (with_timer m t x) ≡ preferred_of m
  unfolding preferred_of
  preferred-timer = same_at m (with_timer m t x) since_at head-timer preferred_at (omega arith)

  pub node-timer : node_of (with_timer m t x) ≡ node_of m
  unfolding node_of
  node-timer = same_at m (with_timer m t x) since_at head-timer node_at (omega arith)

  pub pending-timer : pending_of (with_timer m t x) ≡ pending_of m
  unfolding pending_of
  pending-timer = same_at m (with_timer m t x) since_at head-timer pending_at (omega arith)

module _ (m : List ℕ) (k : ℕ) where
  head-pending : take pending_at (with_pending m k) ≡ take pending_at m
  unfolding with_pending
  head-pending = take-set-le pending_at m pending_at k (omega arith)

  pub unique-pending : unique_of (with_pending m k) ≡ unique_of m
  unique-pending = same-unique m (with_pending m k) pending_at head-pending (omega arith)

  pub preferred-pending : preferred_of (with_pending m k) ≡ preferred_of m
  unfolding preferred_of
  preferred-pending = same_at m (with_pending m k) pending_at head-pending preferred_at (omega arith)

  pub node-pending : node_of (with_pending m k) ≡ node_of m
  unfolding node_of
  node-pending = same_at m (with_pending m k) pending_at head-pending node_at (omega arith)

  pub pending-pending : size ≤ length m → pending_of (with_pending m k) ≡ k
  unfolding with_pending pending_of
  pending-pending h = get_or-set_same m pending_at k 0 (omega arith)

pub node-node : (m : List ℕ) (n : ℕ) → size ≤ length m → node_of (with_node m n) ≡ n
unfolding with_node node_of
node-node m n h = get_or-set_same m node_at n 0 (omega arith)

-- a state without an ID, field by field
pub record Ready (m u : List ℕ) (prefers pending : ℕ) : Type 0 where
  pub long : size ≤ length m
  pub unique : unique_of m ≡ u
  pub preferred : preferred_of m ≡ prefers
  pub node : node_of m ≡ 0
  pub skips : pending_of m ≡ pending

module _ (m u : List ℕ) (p k : ℕ) (r : Ready m u p k) where
  pub ready-sound : p ≤ node_max → k ≤ unique_id_max → sound_state m ≡ true
  ready-sound hp hk =
      sym (by-pending m r.long p (sym r.preferred) hp 0 (sym r.node) (omega arith) k (sym r.skips)) ∙ le-leb k unique_id_max hk

  pub ready-timer : (t x : ℕ) → Ready (with_timer m t x) u p k
  ready-timer t x =
      record {
        long = omega (arith, length-timer m t x r.long, r.long);
        unique = unique-timer m t x r.long ∙ r.unique;
        preferred = preferred-timer m t x r.long ∙ r.preferred;
        node = node-timer m t x r.long ∙ r.node;
        skips = pending-timer m t x r.long ∙ r.skips;
      }

  pub ready-pending : (n : ℕ) → Ready (with_pending m n) u p n
  ready-pending n =
      record {
        long = omega (arith, length-pending m n, r.long);
        unique = unique-pending m n ∙ r.unique;
        preferred = preferred-pending m n ∙ r.preferred;
        node = node-pending m n ∙ r.node;
        skips = pending-pending m n r.long;
      }
