-- What is decided, case by case.
use mathlib.Core.Path.{◌≡◌, ap, ◌∙◌}
use mathlib.Core.Bool.{true, false}
use mathlib.Core.List.{List}
use mathlib.Core.Option.{Option, none, some}
use mathlib.Mathlib.Data.Bool.Basic.{and_elim_right}
use Prim.Native.Nat.{ℕ, ◌+◌, ◌≤◌, ◌<◌}
use native.Mathlib.Omega.{arith}
use borrow.Author.Tests.{eq-eqb, ne_eqb, lt-ltb, le-ltb, leb-true}
use lib.Dec.{eqb, ltb}
use lib.ListN.{length, length-append}
use Rattle.bits.specs.Little.{le}
use Rattle.bits.specs.Part.{span}
use Rattle.bits.proofs.Splice.{length-span}
use Rattle.allocator_table.specs.Layout.{gathered_at, entry_count, table_of, sound_state}
use Rattle.allocator_table.specs.Limits.{unique_id_max, node_max}
use Rattle.allocator_table.specs.Table.{node_of, is_givable, is_free, given}
use Rattle.allocator_table.proofs.Room.{known-givable, room}
use Rattle.allocator_table.proofs.Search.{given-takes}
use Rattle.allocator_table.proofs.Soundness.{long-enough, gathered-few, table-sound}
use Rattle.allocator.specs.Allocate.{ignored, awaits, gathers, knows, gives, exhausted, completes, Fields, decide}
use Rattle.allocator.specs.Stage.{stage_of, expected_at, accepts, kept_at, joined, preferred}
use Rattle.allocator.specs.declared.Request.{Request}
use Rattle.allocator.proofs.Stages.{kept-le}

-- ── the message ──

module _ (m : List ℕ) (q : Request) (v : Fields) where
  pub is-ignored : (q.source ≡ 0 → ⊥) → decide m q v ≡ ignored
  unfolding decide
  is-ignored s = rw (ne_eqb q.source 0 s)

  module _ (s : q.source ≡ 0) where
    pub is-awaited : accepts v.1.0 (length v.1.1) (kept_at m q.time) ≡ false → decide m q v ≡ awaits
    unfolding decide
    is-awaited a = rw (eq-eqb q.source 0 s, a)

    module _ (a : accepts v.1.0 (length v.1.1) (kept_at m q.time) ≡ true) where
      pub is-part : length (joined m q.time v.1.1) < unique_id_max → decide m q v ≡ gathers
      unfolding decide
      is-part l = rw (eq-eqb q.source 0 s, a, lt-ltb (length (joined m q.time v.1.1)) unique_id_max l)

      pub is-whole : unique_id_max ≤ length (joined m q.time v.1.1) → decide m q v ≡ completes m q (joined m q.time v.1.1) v.0
      unfolding decide
      is-whole l = rw (eq-eqb q.source 0 s, a, le-ltb (length (joined m q.time v.1.1)) unique_id_max l)

-- the bytes that are gathered are few, and those of an accepted message fit
pub kept-few : (m : List ℕ) (t : ℕ) → sound_state m ≡ true → kept_at m t < unique_id_max
kept-few m t s = omega (arith, kept-le m t, gathered-few m s)

pub accepted-fits : (first k n : ℕ) → accepts first k n ≡ true → n + k ≤ unique_id_max
unfolding accepts
accepted-fits first k n a =
    leb-true (n + k) unique_id_max (and_elim_right (eqb (stage_of first k) (expected_at n)) _ (and_elim_right (ltb 0 (stage_of first k)) _ a))

pub length-joined : (m : List ℕ) (t : ℕ) (u : List ℕ) → sound_state m ≡ true → length (joined m t u) ≡ kept_at m t + length u
unfolding joined
length-joined m t u s =
    length-append (span m gathered_at (kept_at m t)) u
    ∙ ap (λ (k : ℕ). k + length u) (length-span m gathered_at (kept_at m t) (omega (arith, long-enough m s, kept-few m t s)))

-- ── a whole unique ID ──

pub givable-small : (n : ℕ) → is_givable n ≡ true → n ≤ node_max
givable-small n h = leb-true n node_max (and_elim_right (ltb 0 n) _ h)

pub known_small : (m : List ℕ) (u n : ℕ) → sound_state m ≡ true → node_of u (table_of m) ≡ some n → n ≤ node_max
known_small m u n s e = givable-small n (known-givable (table_of m) u n (table-sound m s) e)

module _ (m : List ℕ) (q : Request) (g : List ℕ) (p : ℕ) (s : sound_state m ≡ true) where
  abbrev entered : Option ℕ
  entered = node_of (le g) (table_of m)

  abbrev chosen : Option ℕ
  chosen = given (is_free q.reserved (table_of m)) (preferred p)

  module _ (n : ℕ) (e : node_of (le g) (table_of m) ≡ some n) where
    pub is_known : completes m q g p ≡ knows n
    unfolding completes
    is_known = rw e

    pub known-low : n ≤ node_max
    known-low = known_small m (le g) n s e

  module _ (new : node_of (le g) (table_of m) ≡ none) where
    pub none_left : given (is_free q.reserved (table_of m)) (preferred p) ≡ none → completes m q g p ≡ exhausted
    unfolding completes
    none_left e = rw (new, e)

    pub one_left : (n : ℕ) → given (is_free q.reserved (table_of m)) (preferred p) ≡ some n → completes m q g p ≡ gives n
    unfolding completes
    one_left n e = rw (new, e)

    pub room-left : (n : ℕ) → given (is_free q.reserved (table_of m)) (preferred p) ≡ some n → entry_count m < node_max
    room-left n e = room q.reserved m n s (given-takes (is_free q.reserved (table_of m)) (preferred p) n e)
