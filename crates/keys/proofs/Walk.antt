-- A walk over the keys of a table, up to the last place in use: where it is, one turn, and its ends. It finds two keys alike, and tests each place.
use mathlib.Core.Path.{◌≡◌, refl, sym, ap, ap₂, subst, ◌∙◌}
use mathlib.Core.Bool.{Bool, true, false, false≢true, not, ◌&&◌, ◌||◌, and-false}
use mathlib.Core.List.{List}
use Prim.Native.Nat.{ℕ, suc, ◌+◌, ◌-◌, ◌≤◌, ◌<◌}
use native.Mathlib.Numerals.{add-one}
use native.Mathlib.Omega.{arith}
use borrow.Author.Count.{below_more}
use borrow.Author.Tests.{eqb-true, eqb-false, eq-eqb, ne_eqb, ltb-true, ltb-false}
use lib.Dec.{eqb, ltb}
use lib.ListN.{length, drop, get_or, set, length-set}
use mir.Val.{bool_byte}
use Rattle.bits.specs.Tabulate.{tabulate, every}
use Rattle.bits.proofs.Every.{every_true, every-false}
use Rattle.bits.proofs.Tabulate.{length-tabulate}
use Rattle.keys.specs.inside.Keys.{count, distinct, marks_max, mark_at}
use Rattle.keys.proofs.Counts.{byte_le, left_step, rest-empty}
use Rattle.keys.proofs.Distinct.{at, First, FirstTo, first-distinct, distinct-once, once-first, key-is}
use Rattle.keys.proofs.Marks.{Marked, unmarked, mark, first_step}

-- before place i: the keys have left their marks, and each in use is the first of its kind; `left` places in use are to come
pub record Walked (table marks : List ℕ) (left i : ℕ) : Type 0 where
  pub inside : i ≤ length table
  pub marks-long : length marks ≡ marks_max
  pub marked : Marked (at table) i marks
  pub to-come : left + count 0 (drop i table) ≡ length table - i
  pub first : FirstTo (at table) i

-- what `is_alone` answers
abbrev pub alone : List ℕ → ℕ → Bool → Bool
alone table k first = first || (eqb k 0 || eqb (count k table) 1)

module _ (table marks : List ℕ) (left i : ℕ) (w : Walked table marks left i) where
  abbrev k : ℕ
  k = at table i

  module _ (some : 0 < left) where
    pub here : i < length table
    here = let e = w.to-come in omega arith

    -- `left` does not fall below 0
    pub left-ok : bool_byte (not (eqb k 0)) ≤ left
    left-ok = omega (arith, byte_le (not (eqb k 0)))

    -- one place more
    turn : (first : Bool) → first ≡ eqb (get_or marks (mark_at k) 0) 0 → alone table k first ≡ true → (marks' : List ℕ) → marks' ≡ set marks (mark_at k) 1
        → Walked table marks' (left - bool_byte (not (eqb k 0))) (suc i)
    turn first e t marks' em = record {
      inside = here;
      marks-long = ap length em ∙ simp length-set w.marks-long;
      marked = subst (Marked (at table) (suc i)) (sym em) (mark (at table) i marks (omega (arith, w.marks-long)) w.marked);
      to-come = left_step table i left here some w.to-come;
      first = first_step (at table) i w.first (own first e t);
    }
      where
        own : (b : Bool) → b ≡ eqb (get_or marks (mark_at k) 0) 0 → alone table k b ≡ true → (k ≡ 0 → ⊥) → First (at table) i
        own true q t z = unmarked (at table) i marks w.marked (mark_at k) refl (sym q)
        own false q t z = once-first table i here (eqb-true (count k table) 1 (rw (ne_eqb k 0 z) at t))

    -- a key that is there twice
    twice : (first : Bool) → alone table k first ≡ false → distinct table ≡ false
    twice true e = absurd (false≢true (sym e))
    twice false e = go (eqb k 0) refl (distinct table) refl where
      go : (b : Bool) → eqb k 0 ≡ b → (d : Bool) → distinct table ≡ d → d ≡ false
      go true z d q = absurd (false≢true (sym (rw z at e)))
      go false z false q = refl
      go false z true q =
          let o = eq-eqb (count k table) 1 (distinct-once table q i here (eqb-false k 0 z)) in
          absurd (false≢true (sym (rw (z, o) at e)))

  -- the places from i on are empty
  module _ (none : left ≡ 0) where
    rest : (j : ℕ) → i ≤ j → j < length table → at table j ≡ 0
    rest = rest-empty table i (let e = w.to-come in omega arith)

    walked : distinct table ≡ true
    walked = first-distinct table all where
      all : FirstTo (at table) (length table)
      all j b = there (ltb j i) refl where
        there : (t : Bool) → ltb j i ≡ t → (at table j ≡ 0 → ⊥) → First (at table) j
        there true q = w.first j (ltb-true j i q)
        there false q = λ z. absurd (z (rest j (ltb-false j i q) b))

-- ── a table with the keys of n places ──

module _ (key : ℕ → ℕ) (n : ℕ) (table : List ℕ) (is : table ≡ tabulate key 0 n) where
  pub as_long : length table ≡ n
  as_long = ap length is ∙ length-tabulate key 0 n

  pub table_at : (i : ℕ) → i < n → at table i ≡ key i
  table_at i h = ap (λ (l : List ℕ). at l i) is ∙ key-is key n i h

  -- a test that each place passed takes, and each empty one
  passed : (test : ℕ → Bool) → ((j : ℕ) → key j ≡ 0 → test j ≡ true) → (i : ℕ) → ((j : ℕ) → i ≤ j → j < length table → at table j ≡ 0)
      → ((l : ℕ) → l < i → test l ≡ true) → (j : ℕ) → j < n → test j ≡ true
  passed test empty i none h j b = go (ltb j i) refl where
    go : (t : Bool) → ltb j i ≡ t → test j ≡ true
    go true q = h j (ltb-true j i q)
    go false q = empty j (sym (table_at j b) ∙ none j (ltb-false j i q) (omega (arith, as_long)))

-- ── a walk that tests each place ──

-- the places before place i took the test
pub record Tested (test : ℕ → Bool) (table marks : List ℕ) (left i : ℕ) : Type 0 where
  pub walk : Walked table marks left i
  pub fit : (l : ℕ) → l < i → test l ≡ true

pub begins : (test : ℕ → Bool) (table marks : List ℕ) (left : ℕ) → length marks ≡ marks_max → left + count 0 table ≡ length table → Tested test table marks left 0
begins test table marks left l e =
    record {
      walk = record { inside = omega arith; marks-long = l; marked = λ a h. absurd (omega arith); to-come = omega (arith, e); first = λ i h. absurd (omega arith) };
      fit = λ l h. absurd (omega arith);
    }

module _ (key : ℕ → ℕ) (n : ℕ) (table : List ℕ) (is : table ≡ tabulate key 0 n) (test : ℕ → Bool) where
  -- all n places take the test, and no key is there twice
  abbrev sound : Bool
  sound = every test 0 n && distinct table

  module _ (marks : List ℕ) (left i : ℕ) (w : Tested test table marks left i) where
    module _ (some : 0 < left) where
      pub place : i < n
      place = omega (arith, here table marks left i w.walk some, as_long key n table is)

      pub again : test i ≡ true → (first : Bool) → first ≡ eqb (get_or marks (mark_at (at table i)) 0) 0 → alone table (at table i) first ≡ true → (marks' : List ℕ)
          → marks' ≡ set marks (mark_at (at table i)) 1 → Tested test table marks' (left - bool_byte (not (eqb (at table i) 0))) (i + 1)
      again t first e a marks' em =
          record { walk = rw add-one (turn table marks left i w.walk some first e a marks' em); fit = below_more _ _ w.fit t }

      pub unfit : test i ≡ false → false ≡ sound
      unfit t = sym (ap (λ b. b && distinct table) (every-false test n 0 i (omega arith) (omega (arith, place)) t))

      pub alike : (first : Bool) → alone table (at table i) first ≡ false → false ≡ sound
      alike first a = sym (ap (λ b. every test 0 n && b) (twice table marks left i w.walk some first a) ∙ and-false (every test 0 n))

    -- an empty place takes the test
    pub ends : left ≡ 0 → ((j : ℕ) → key j ≡ 0 → test j ≡ true) → true ≡ sound
    ends none empty =
        let fit = passed key n table is test empty i (rest table marks left i w.walk none) w.fit in
        sym (ap₂ (λ a b. a && b) (every_true test n 0 (λ j a b. fit j (omega arith))) (walked table marks left i w.walk none))
