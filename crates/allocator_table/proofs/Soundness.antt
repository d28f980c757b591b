-- The test of a lent state, and what a state without a fault gives.
use mathlib.Core.Path.{◌≡◌, refl, sym, ap, ◌∙◌}
use mathlib.Core.Bool.{Bool, true, false, not, ◌&&◌, ◌||◌, and-false}
use mathlib.Core.List.{List, ◌∷◌}
use mathlib.Mathlib.Data.Bool.Basic.{and_elim_left, and_elim_right}
use Prim.Native.Nat.{ℕ, zero, suc, ◌≤◌, ◌<◌}
use native.Mathlib.Omega.{arith}
use borrow.Author.Tests.{eqb-true, eqb-false, leb-true, lt-leb, le-leb, ltb-true, lt-ltb, le-ltb, not-true}
use lib.Dec.{eqb, ltb, leb}
use lib.ListN.{length, get_or, set, replicate, length-set, get_or-replicate}
use lib.Seq.{get_or-set_same, get_or-set_other}
use mir.Val.{bool_byte}
use Rattle.allocator_table.specs.Layout.{size, unique_at, entry_at, gathered_count, entry_count, table_of, sound_state}
use Rattle.allocator_table.specs.Limits.{unique_id_max, node_max}
use Rattle.allocator_table.specs.Table.{Entry, holds, is_givable, below, fits_before, sound}
use Rattle.allocator_table.specs.inside.Sound.{Seen}
use Rattle.allocator_table.proofs.Walk.{rest, rest-step, rest_end}

-- ── what a state without a fault gives ──

module _ (m : List ℕ) (fine : sound_state m ≡ true) where
  pub long-enough : size ≤ length m
  unfolding sound_state
  long-enough = leb-true size (length m) (and_elim_left _ _ fine)

  later : (ltb (gathered_count m) unique_id_max && (leb (entry_count m) node_max && sound (table_of m))) ≡ true
  unfolding sound_state
  later = and_elim_right (leb size (length m)) _ fine

  pub gathered-few : gathered_count m < unique_id_max
  gathered-few = ltb-true (gathered_count m) unique_id_max (and_elim_left _ _ later)

  last : (leb (entry_count m) node_max && sound (table_of m)) ≡ true
  last = and_elim_right (ltb (gathered_count m) unique_id_max) _ later

  pub entries-few : entry_count m ≤ node_max
  entries-few = leb-true (entry_count m) node_max (and_elim_left _ _ last)

  pub table-sound : sound (table_of m) ≡ true
  table-sound = and_elim_right (leb (entry_count m) node_max) _ last

-- ── the test, fault by fault ──

module _ (m : List ℕ) where
  pub fault-short : length m < size → false ≡ sound_state m
  unfolding sound_state
  fault-short h = rw (lt-leb size (length m) h)

  module _ (h : size ≤ length m) where
    pub fault-gathered : unique_id_max ≤ gathered_count m → false ≡ sound_state m
    unfolding sound_state
    fault-gathered g = rw (le-leb size (length m) h, le-ltb (gathered_count m) unique_id_max g)

    module _ (g : gathered_count m < unique_id_max) where
      pub fault-entries : node_max < entry_count m → false ≡ sound_state m
      unfolding sound_state
      fault-entries n = rw (le-leb size (length m) h, lt-ltb (gathered_count m) unique_id_max g, lt-leb (entry_count m) node_max n)

      pub by-table : entry_count m ≤ node_max → sound (table_of m) ≡ sound_state m
      unfolding sound_state
      by-table n = rw (le-leb size (length m) h, lt-ltb (gathered_count m) unique_id_max g, le-leb (entry_count m) node_max n)

-- ── one entry, before those behind it ──

module _ (e : Entry) (t : List Entry) where
  pub unfit-zero : e.node ≡ 0 → false ≡ fits_before e t
  unfolding fits_before
  unfit-zero z = rw (le-ltb 0 e.node (omega arith))

  module _ (p : 0 < e.node) where
    pub unfit-large : node_max < e.node → false ≡ fits_before e t
    unfolding fits_before
    unfit-large l = rw (lt-ltb 0 e.node p, lt-leb e.node node_max l)

    module _ (l : e.node ≤ node_max) where
      pub unfit-held : holds e.node t ≡ true → false ≡ fits_before e t
      unfolding fits_before
      unfit-held k = rw (lt-ltb 0 e.node p, le-leb e.node node_max l, k)

      pub by_order : holds e.node t ≡ false → below e.unique t ≡ fits_before e t
      unfolding fits_before
      by_order k = rw (lt-ltb 0 e.node p, le-leb e.node node_max l, k)

-- what an entry that fits has
module _ (e : Entry) (t : List Entry) (f : fits_before e t ≡ true) where
  pub node-some : 0 < e.node
  unfolding fits_before
  node-some = ltb-true 0 e.node (and_elim_left _ _ (and_elim_left _ _ f))

  pub node-small : e.node ≤ node_max
  unfolding fits_before
  node-small = leb-true e.node node_max (and_elim_right (ltb 0 e.node) _ (and_elim_left _ _ f))

  behind : (not (holds e.node t) && below e.unique t) ≡ true
  unfolding fits_before
  behind = and_elim_right (is_givable e.node) _ f

  pub node-once : holds e.node t ≡ false
  node-once = not-true _ (and_elim_left _ _ behind)

  pub unique-below : below e.unique t ≡ true
  unique-below = and_elim_right (not (holds e.node t)) _ behind

module _ (e : Entry) (t : List Entry) (s : sound (e ∷ t) ≡ true) where
  pub first_fits : fits_before e t ≡ true
  unfolding sound
  first_fits = and_elim_left _ _ s

  pub rest-sound : sound t ≡ true
  unfolding sound
  rest-sound = and_elim_right (fits_before e t) _ s

-- the next entry, or none
module _ (m : List ℕ) (i n : ℕ) (u : ℕ) where
  pub below_next : i < n → ltb u (unique_at m i) ≡ below u (rest m i n)
  unfolding below
  below_next h = sym (ap (below u) (rest-step m i n h))

  pub below_none : n ≤ i → true ≡ below u (rest m i n)
  unfolding below
  below_none h = sym (ap (below u) (rest_end m i n h))

-- ── the marks of a walk from the end ──

byte-true : (b : Bool) (x : ℕ) → x ≡ bool_byte b → (x ≡ 0 → ⊥) → b ≡ true
byte-true true x e z = refl
byte-true false x e z = absurd (z e)

byte-false : (b : Bool) (x : ℕ) → x ≡ bool_byte b → x ≡ 0 → b ≡ false
byte-false false x e z = refl
byte-false true x e z = absurd (omega arith)

module _ (marks : List ℕ) (t : List Entry) (s : Seen marks t) (x : ℕ) (h : x < 128) where
  pub seen-held : (get_or marks x 0 ≡ 0 → ⊥) → holds x t ≡ true
  seen-held = byte-true (holds x t) (get_or marks x 0) (s.marked x h)

  pub unseen : get_or marks x 0 ≡ 0 → holds x t ≡ false
  unseen = byte-false (holds x t) (get_or marks x 0) (s.marked x h)

-- no entry is passed
pub seen_none : (m : List ℕ) (n : ℕ) (marks : List ℕ) → marks ≡ replicate 128 0 → Seen marks (rest m n n)
unfolding holds
seen_none m n marks e =
    record {
      long = ap length e;
      marked = λ x l. ap (λ (k : List ℕ). get_or k x 0) e ∙ get_or-replicate 128 x 0 0 l ∙ sym (ap (λ t. bool_byte (holds x t)) (rest_end m n n (omega arith)));
    }

-- an entry is passed
pub seen_more : (marks : List ℕ) (e : Entry) (t : List Entry) → e.node < 128 → Seen marks t → Seen (set marks e.node 1) (e ∷ t)
unfolding holds
seen_more marks e t h s = record { long = simp length-set s.long; marked = λ n l. at n l (eqb e.node n) refl } where
  at : (n : ℕ) → n < 128 → (b : Bool) → eqb e.node n ≡ b → get_or (set marks e.node 1) n 0 ≡ bool_byte (b || holds n t)
  at n l true q = let w : e.node ≡ n = eqb-true e.node n q in rw (← w) (get_or-set_same marks e.node 1 0 (omega (arith, s.long)))
  at n l false q = get_or-set_other marks e.node n 1 0 (λ z. eqb-false e.node n q (sym z)) ∙ s.marked n l

-- ── all entries ──

module _ (m : List ℕ) (i n : ℕ) (h : i < n) where
  pub sound-step : sound (rest m i n) ≡ (fits_before (entry_at m i) (rest m (suc i) n) && sound (rest m (suc i) n))
  unfolding sound
  sound-step = ap sound (rest-step m i n h)

-- a fault at the end is one of the whole
pub unsound-before : (m : List ℕ) (n i : ℕ) → i ≤ n → sound (rest m i n) ≡ false → sound (rest m 0 n) ≡ false
unsound-before m n zero h e = e
unsound-before m n (suc i) h e =
    unsound-before m n i (omega arith) (sound-step m i n h ∙ ap (λ b. fits_before (entry_at m i) (rest m (suc i) n) && b) e ∙ and-false (fits_before (entry_at m i) (rest m (suc i) n)))
