-- A queue in order stays so, and the records of each ID stay in their order.
use mathlib.Core.Path.{◌≡◌, refl, sym, ap, ◌∙◌}
use mathlib.Core.Bool.{Bool, true, false, ◌&&◌}
use mathlib.Core.List.{List, [], ◌∷◌, ◌++◌, append_assoc, append-nil}
use mathlib.Mathlib.Data.Bool.Basic.{and_elim_left, and_elim_right}
use Prim.Native.Nat.{ℕ, ◌≤◌, ◌<◌}
use native.Mathlib.Omega.{arith}
use borrow.Author.Tests.{leb-true, leb-false, eqb-true, le-leb, eq-eqb, ne_eqb}
use lib.Dec.{leb, eqb}
use Rattle.rules.specs.Tests.{pick}
use Rattle.queue.specs.Laws.{with_id}
use Rattle.queue.specs.Queue.{Record, id_of, fault_of, first_fault, insert, put_all, not_above, in_order}

-- ── the parts of the test ──

module _ (r : Record) (q : List Record) (o : in_order (r ∷ q) ≡ true) where
  pub first_fine : eqb (fault_of r) 0 ≡ true
  unfolding in_order
  first_fine = and_elim_left _ _ o

  later : (not_above (id_of r) q && in_order q) ≡ true
  unfolding in_order
  later = and_elim_right (eqb (fault_of r) 0) _ o

  pub first-lowest : not_above (id_of r) q ≡ true
  first-lowest = and_elim_left _ _ later

  pub rest-ordered : in_order q ≡ true
  rest-ordered = and_elim_right (not_above (id_of r) q) _ later

joined : (r : Record) (q : List Record) → eqb (fault_of r) 0 ≡ true → not_above (id_of r) q ≡ true → in_order q ≡ true → in_order (r ∷ q) ≡ true
unfolding in_order
joined r q f a o = rw (f, a) o

nothing : (id : ℕ) → not_above id [] ≡ true
unfolding not_above
nothing id = refl

lower : (r x : Record) (q : List Record) → id_of r < id_of x → not_above (id_of r) (x ∷ q) ≡ true
unfolding not_above
lower r x q h = le-leb (id_of r) (id_of x) (omega arith)

self : (x : Record) (q : List Record) → not_above (id_of x) (x ∷ q) ≡ true
unfolding not_above
self x q = le-leb (id_of x) (id_of x) (omega arith)

-- records of which none is refused
module _ (r : Record) (rs : List Record) (f : first_fault (r ∷ rs) ≡ 0) where
  fine-first : eqb (fault_of r) 0 ≡ true
  unfolding first_fault
  fine-first = go (eqb (fault_of r) 0) refl where
    go : (b : Bool) → eqb (fault_of r) 0 ≡ b → eqb (fault_of r) 0 ≡ true
    go true e = e
    go false e = eq-eqb (fault_of r) 0 (rw e at f)

  fine-rest : first_fault rs ≡ 0
  unfolding first_fault
  fine-rest = rw fine-first at f

-- ── a record more ──

above-insert : (id : ℕ) (r : Record) (q : List Record) → id ≤ id_of r → not_above id q ≡ true → not_above id (insert r q) ≡ true
unfolding not_above insert
above-insert id r [] h a = le-leb id (id_of r) h
above-insert id r (x ∷ q) h a = go (leb (id_of x) (id_of r)) refl where
  go : (b : Bool) → leb (id_of x) (id_of r) ≡ b → not_above id (insert r (x ∷ q)) ≡ true
  go true e = rw e a
  go false e = rw e (le-leb id (id_of r) h)

pub insert-ordered : (r : Record) (q : List Record) → eqb (fault_of r) 0 ≡ true → in_order q ≡ true → in_order (insert r q) ≡ true
unfolding insert
insert-ordered r [] f o = joined r [] f (nothing (id_of r)) o
insert-ordered r (x ∷ q) f o = go (leb (id_of x) (id_of r)) refl (insert-ordered r q f (rest-ordered x q o)) where
  go : (b : Bool) → leb (id_of x) (id_of r) ≡ b → in_order (insert r q) ≡ true → in_order (insert r (x ∷ q)) ≡ true
  go true e ih = rw e (joined x (insert r q) (first_fine x q o) (above-insert (id_of x) r q (leb-true (id_of x) (id_of r) e) (first-lowest x q o)) ih)
  go false e ih = rw e (joined r (x ∷ q) f (lower r x q (leb-false (id_of x) (id_of r) e)) o)

pub put-ordered : (rs q : List Record) → first_fault rs ≡ 0 → in_order q ≡ true → in_order (put_all q rs) ≡ true
unfolding put_all first_fault
put-ordered [] q f o = o
put-ordered (r ∷ rs) q f o = put-ordered rs (insert r q) (fine-rest r rs f) (insert-ordered r q (fine-first r rs f) o)

-- ── the first is the lowest ──

pub lowest : (id : ℕ) (x : Record) (xs ys : List Record) → in_order (xs ++ (x ∷ ys)) ≡ true → not_above id (xs ++ (x ∷ ys)) ≡ true → id ≤ id_of x
unfolding not_above
lowest id x [] ys o a = leb-true id (id_of x) a
lowest id x (y ∷ xs) ys o a =
    let h : id ≤ id_of y = leb-true id (id_of y) a in
    let l : id_of y ≤ id_of x = lowest (id_of y) x xs ys (rest-ordered y (xs ++ (x ∷ ys)) o) (first-lowest y (xs ++ (x ∷ ys)) o) in
    omega arith

-- ── the records of an ID ──

pub with_append : (id : ℕ) (xs ys : List Record) → with_id id (xs ++ ys) ≡ with_id id xs ++ with_id id ys
unfolding with_id
with_append id [] ys = refl
with_append id (x ∷ xs) ys = go (eqb (id_of x) id) (with_append id xs ys) where
  go : (b : Bool) → with_id id (xs ++ ys) ≡ with_id id xs ++ with_id id ys → pick b (x ∷ with_id id (xs ++ ys)) (with_id id (xs ++ ys)) ≡ pick b (x ∷ with_id id xs) (with_id id xs) ++ with_id id ys
  go true ih = ap (λ l. x ∷ l) ih
  go false ih = ih

-- no record of a lower ID
none_below : (id a : ℕ) (q : List Record) → id < a → not_above a q ≡ true → in_order q ≡ true → with_id id q ≡ []
unfolding with_id not_above
none_below id a [] h n o = refl
none_below id a (x ∷ q) h n o =
    let l : a ≤ id_of x = leb-true a (id_of x) n in
    let d : id_of x ≡ id → ⊥ = λ e. omega arith in
    rw (ne_eqb (id_of x) id d) (none_below id (id_of x) q (omega arith) (first-lowest x q o) (rest-ordered x q o))

-- a record goes in behind those of its ID
with-insert : (id : ℕ) (r : Record) (q : List Record) → in_order q ≡ true → with_id id (insert r q) ≡ with_id id q ++ with_id id (r ∷ [])
unfolding with_id insert
with-insert id r [] o = refl
with-insert id r (x ∷ q) o = go (leb (id_of x) (id_of r)) refl (with-insert id r q (rest-ordered x q o)) where
  past : (b : Bool) → with_id id (insert r q) ≡ with_id id q ++ with_id id (r ∷ [])
      → pick b (x ∷ with_id id (insert r q)) (with_id id (insert r q)) ≡ pick b (x ∷ with_id id q) (with_id id q) ++ with_id id (r ∷ [])
  past true ih = ap (λ l. x ∷ l) ih
  past false ih = ih

  here : id_of r < id_of x → (b : Bool) → eqb (id_of r) id ≡ b → pick b (r ∷ with_id id (x ∷ q)) (with_id id (x ∷ q)) ≡ with_id id (x ∷ q) ++ pick b (r ∷ []) []
  here h true e =
      let z : with_id id (x ∷ q) ≡ [] = none_below id (id_of x) (x ∷ q) (let s : id_of r ≡ id = eqb-true (id_of r) id e in omega arith) (self x q) o in
      ap (λ l. r ∷ l) z ∙ sym (ap (λ l. l ++ (r ∷ [])) z)
  here h false e = sym (append-nil (with_id id (x ∷ q)))

  go : (b : Bool) → leb (id_of x) (id_of r) ≡ b → with_id id (insert r q) ≡ with_id id q ++ with_id id (r ∷ []) → with_id id (insert r (x ∷ q)) ≡ with_id id (x ∷ q) ++ with_id id (r ∷ [])
  go true e ih = rw e (past (eqb (id_of x) id) ih)
  go false e ih = rw e (here (leb-false (id_of x) (id_of r) e) (eqb (id_of r) id) refl)

pub with-put : (id : ℕ) (rs q : List Record) → first_fault rs ≡ 0 → in_order q ≡ true → with_id id (put_all q rs) ≡ with_id id q ++ with_id id rs
unfolding put_all with_id
with-put id [] q f o = sym (append-nil (with_id id q))
with-put id (r ∷ rs) q f o =
    let h : eqb (fault_of r) 0 ≡ true = fine-first r rs f in
    let g : first_fault rs ≡ 0 = fine-rest r rs f in
    with-put id rs (insert r q) g (insert-ordered r q h o) ∙ ap (λ l. l ++ with_id id rs) (with-insert id r q o)
    ∙ append_assoc (with_id id q) (with_id id (r ∷ [])) (with_id id rs) ∙ ap (λ l. with_id id q ++ l) (sym (with_append id (r ∷ []) rs))
