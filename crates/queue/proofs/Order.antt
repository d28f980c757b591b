-- The order of a queue: where a record goes, and several of one ID.
use mathlib.Core.Path.{◌≡◌, refl, sym, ap, ap₂, ◌∙◌}
use mathlib.Core.Bool.{Bool, true, false}
use mathlib.Core.List.{List, [], ◌∷◌, ◌++◌, append_assoc}
use Prim.Native.Nat.{ℕ, zero, suc, ◌+◌, ◌≤◌, ◌<◌}
use native.Mathlib.Omega.{arith}
use borrow.Author.Tests.{le-leb, lt-leb}
use lib.Dec.{leb}
use lib.ListN.{length}
use Rattle.bits.specs.Tabulate.{tabulate}
use Rattle.queue.specs.Layout.{record_at, queued}
use Rattle.queue.specs.Queue.{Record, id_of, insert, put_all}
use Rattle.queue.specs.inside.Run.{front, behind}

-- a queue is what goes before a new record and what goes behind it
pub split : (id : ℕ) (q : List Record) → front id q ++ behind id q ≡ q
unfolding front behind
split id [] = refl
split id (x ∷ q) = go (leb (id_of x) id) refl (split id q) where
  go : (b : Bool) → leb (id_of x) id ≡ b → front id q ++ behind id q ≡ q → front id (x ∷ q) ++ behind id (x ∷ q) ≡ x ∷ q
  go true e ih = rw e (ap (λ l. x ∷ l) ih)
  go false e ih = rw e

pub insert-is : (r : Record) (id : ℕ) → id_of r ≡ id → (q : List Record) → insert r q ≡ front id q ++ (r ∷ behind id q)
unfolding front behind insert
insert-is r id s [] = refl
insert-is r id s (x ∷ q) = go (leb (id_of x) id) refl (insert-is r id s q) where
  go : (b : Bool) → leb (id_of x) id ≡ b → insert r q ≡ front id q ++ (r ∷ behind id q) → insert r (x ∷ q) ≡ front id (x ∷ q) ++ (r ∷ behind id (x ∷ q))
  go true e ih = rw (s, e) (ap (λ l. x ∷ l) ih)
  go false e ih = rw (s, e)

-- a second record of the same ID goes right behind the first
module _ (r : Record) (id : ℕ) (s : id_of r ≡ id) where
  same : leb (id_of r) id ≡ true
  same = le-leb (id_of r) id (omega arith)

  pub front-after : (q : List Record) → front id (front id q ++ (r ∷ behind id q)) ≡ front id q ++ (r ∷ [])
  unfolding front behind
  front-after [] = rw same
  front-after (x ∷ q) = go (leb (id_of x) id) refl (front-after q) where
    go : (b : Bool) → leb (id_of x) id ≡ b → front id (front id q ++ (r ∷ behind id q)) ≡ front id q ++ (r ∷ [])
        → front id (front id (x ∷ q) ++ (r ∷ behind id (x ∷ q))) ≡ front id (x ∷ q) ++ (r ∷ [])
    go true e ih = rw e (rw e (ap (λ l. x ∷ l) ih))
    go false e ih = rw e (rw same (rw e))

  pub behind-after : (q : List Record) → behind id (front id q ++ (r ∷ behind id q)) ≡ behind id q
  unfolding front behind
  behind-after [] = rw same
  behind-after (x ∷ q) = go (leb (id_of x) id) refl (behind-after q) where
    go : (b : Bool) → leb (id_of x) id ≡ b → behind id (front id q ++ (r ∷ behind id q)) ≡ behind id q → behind id (front id (x ∷ q) ++ (r ∷ behind id (x ∷ q))) ≡ behind id (x ∷ q)
    go true e ih = rw e (rw e ih)
    go false e ih = rw e (rw same (rw e))

-- records of one ID go in together
pub put-run : (f : ℕ → Record) (id n i : ℕ) → ((j : ℕ) → i ≤ j → j < i + n → id_of (f j) ≡ id) → (q : List Record)
    → put_all q (tabulate f i n) ≡ front id q ++ (tabulate f i n ++ behind id q)
unfolding put_all tabulate
put-run f id zero i all q = sym (split id q)
put-run f id (suc n) i all q =
    let s : id_of (f i) ≡ id = all i (omega arith) (omega arith) in
    let rs = tabulate f (suc i) n in
    ap (λ x. put_all x rs) (insert-is (f i) id s q)
    ∙ put-run f id n (suc i) (λ j a b. all j (omega arith) (omega arith)) (front id q ++ (f i ∷ behind id q))
    ∙ ap₂ (λ x y. x ++ (rs ++ y)) (front-after (f i) id s q) (behind-after (f i) id s q)
    ∙ append_assoc (front id q) (f i ∷ []) (rs ++ behind id q)

pub put-append : (xs ys q : List Record) → put_all q (xs ++ ys) ≡ put_all (put_all q xs) ys
unfolding put_all
put-append [] ys q = refl
put-append (x ∷ xs) ys q = put-append xs ys (insert x q)

-- ── the place for an ID, from the last record down ──

module _ (m : List ℕ) (id p j : ℕ) (next : p ≡ suc j) (x : ℕ) (is : x ≡ id_of (record_at m j)) where
  pub behind-here : id < x → behind id (queued m p) ≡ queued m p
  unfolding queued behind
  behind-here h = rw (next, lt-leb (id_of (record_at m j)) id (omega arith))

  pub behind-next : x ≤ id → behind id (queued m p) ≡ behind id (queued m j)
  unfolding queued behind
  behind-next h = rw (next, le-leb (id_of (record_at m j)) id (omega arith))

pub behind-none : (m : List ℕ) (id p : ℕ) → p ≤ 0 → behind id (queued m p) ≡ queued m p
unfolding queued behind
behind-none m id p h = let e : p ≡ 0 = omega arith in rw e

-- ── how many ──

pub length-insert : (r : Record) (q : List Record) → length (insert r q) ≡ suc (length q)
unfolding insert
length-insert r [] = refl
length-insert r (x ∷ q) = go (leb (id_of x) (id_of r)) refl (length-insert r q) where
  go : (b : Bool) → leb (id_of x) (id_of r) ≡ b → length (insert r q) ≡ suc (length q) → length (insert r (x ∷ q)) ≡ suc (suc (length q))
  go true e ih = rw e (ap suc ih)
  go false e ih = rw e

pub length-put : (rs q : List Record) → length (put_all q rs) ≡ length q + length rs
unfolding put_all
length-put [] q = omega arith
length-put (r ∷ rs) q = omega (arith, length-put rs (insert r q), length-insert r q)
