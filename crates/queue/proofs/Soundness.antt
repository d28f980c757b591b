-- The test of a lent queue, place by place, and what a queue without a fault gives.
use mathlib.Core.Path.{◌≡◌, refl, sym, ap, ◌∙◌}
use mathlib.Core.Bool.{true, false, ◌&&◌, and-false}
use mathlib.Core.List.{List}
use mathlib.Mathlib.Data.Bool.Basic.{and_elim_left, and_elim_right}
use Prim.Native.Nat.{ℕ, zero, suc, ◌+◌, ◌*◌, ◌-◌, ◌≤◌, ◌<◌}
use native.Mathlib.Omega.{arith}
use borrow.Author.Tests.{leb-true, le-leb, lt-leb, eq-eqb, ne_eqb}
use lib.Dec.{leb, eqb}
use lib.ListN.{length}
use Rattle.rules.specs.Limits.{frame_record}
use Rattle.queue.specs.Layout.{records_at, capacity, count_of, record_at, queued, queue_of, sound_queue}
use Rattle.queue.specs.Queue.{Record, id_of, fault_of, not_above, in_order}

-- of 32 bits, what is not above the last ID is not above the queue's first
abbrev pub Below : ℕ → List Record → Type 0
Below last q = (x : ℕ) → x < 4294967296 → not_above x q ≡ leb x last

pub below_none : (m : List ℕ) → (in_order (queued m 0) ≡ true) × Below 4294967295 (queued m 0)
unfolding in_order not_above queued
below_none m = (refl, λ x h. sym (le-leb x 4294967295 (omega arith)))

module _ (m : List ℕ) (i : ℕ) where
  pub below_next : (id : ℕ) → id ≡ id_of (record_at m i) → Below id (queued m (suc i))
  unfolding not_above queued
  below_next id e x h = ap (leb x) (sym e)

  pub next-refused : (fault_of (record_at m i) ≡ 0 → ⊥) → in_order (queued m (suc i)) ≡ false
  unfolding in_order queued
  next-refused n = rw (ne_eqb (fault_of (record_at m i)) 0 n)

  module _ (last : ℕ) (below : Below last (queued m i)) (id : ℕ) (is : id ≡ id_of (record_at m i)) (small : id < 4294967296) where
    first : not_above (id_of (record_at m i)) (queued m i) ≡ leb id last
    first = ap (λ (x : ℕ). not_above x (queued m i)) (sym is) ∙ below id small

    pub above : last < id → in_order (queued m (suc i)) ≡ false
    unfolding in_order queued
    above h = rw (first, lt-leb id last h) (and-false (eqb (fault_of (record_at m i)) 0))

    pub fine : in_order (queued m i) ≡ true → fault_of (record_at m i) ≡ 0 → id ≤ last → in_order (queued m (suc i)) ≡ true
    unfolding in_order queued
    fine o f h = rw (first, le-leb id last h, eq-eqb (fault_of (record_at m i)) 0 f) o

  pub next-above : (last : ℕ) → Below last (queued m i) → (id : ℕ) → id ≡ id_of (record_at m i) → id < 4294967296 → last < id → in_order (queued m (suc i)) ≡ false
  next-above last b id e s h = above last b id e s h

  pub next-fine : (last : ℕ) → in_order (queued m i) ≡ true → Below last (queued m i) → fault_of (record_at m i) ≡ 0 → (id : ℕ) → id ≡ id_of (record_at m i) → id < 4294967296
      → id ≤ last → in_order (queued m (suc i)) ≡ true
  next-fine last o b f id e s h = fine last b id e s o f h

-- a fault lasts over all places behind it
spoilt-by : (m : List ℕ) (i d : ℕ) → in_order (queued m i) ≡ false → in_order (queued m (d + i)) ≡ false
unfolding in_order queued
spoilt-by m i zero e = let z : 0 + i ≡ i = omega arith in rw z e
spoilt-by m i (suc d) e =
    let z : suc d + i ≡ suc (d + i) = omega arith in
    rw (z, spoilt-by m i d e, and-false (not_above (id_of (record_at m (d + i))) (queued m (d + i)))) (and-false (eqb (fault_of (record_at m (d + i))) 0))

pub spoilt : (m : List ℕ) (i n : ℕ) → i < n → in_order (queued m (suc i)) ≡ false → false ≡ in_order (queued m n)
spoilt m i n h e = let z : n - suc i + suc i ≡ n = omega arith in sym (ap (λ (k : ℕ). in_order (queued m k)) (sym z) ∙ spoilt-by m (suc i) (n - suc i) e)

-- ── the test, fault by fault ──

module _ (m : List ℕ) where
  pub fault-short : length m < records_at → false ≡ sound_queue m
  unfolding sound_queue
  fault-short h = rw (lt-leb records_at (length m) h)

  pub fault-many : records_at ≤ length m → capacity (length m) < count_of m → false ≡ sound_queue m
  unfolding sound_queue
  fault-many h l = rw (le-leb records_at (length m) h, lt-leb (count_of m) (capacity (length m)) l)

  pub by-records : records_at ≤ length m → count_of m ≤ capacity (length m) → in_order (queue_of m) ≡ sound_queue m
  unfolding sound_queue
  by-records h l = rw (le-leb records_at (length m) h, le-leb (count_of m) (capacity (length m)) l)

-- ── what a queue without a fault gives ──

pub places-fit : (n k : ℕ) → records_at ≤ n → k ≤ capacity n → records_at + k * frame_record ≤ n
unfolding capacity
places-fit n k h l = omega arith

module _ (m : List ℕ) (fine : sound_queue m ≡ true) where
  pub long-enough : records_at ≤ length m
  unfolding sound_queue
  long-enough = leb-true records_at (length m) (and_elim_left _ _ fine)

  later : (leb (count_of m) (capacity (length m)) && in_order (queue_of m)) ≡ true
  unfolding sound_queue
  later = and_elim_right (leb records_at (length m)) _ fine

  pub few : count_of m ≤ capacity (length m)
  few = leb-true (count_of m) (capacity (length m)) (and_elim_left _ _ later)

  pub records-fine : in_order (queue_of m) ≡ true
  records-fine = and_elim_right (leb (count_of m) (capacity (length m))) _ later

  pub fit : records_at + count_of m * frame_record ≤ length m
  fit = places-fit (length m) (count_of m) long-enough few
