-- A queue's records in their places: reading what is stored, and storing what is there.
use mathlib.Core.Path.{◌≡◌, refl, sym, ap, ap₂, ◌∙◌}
use mathlib.Core.Bool.{Bool, true, false}
use mathlib.Core.List.{List, [], ◌∷◌, ◌++◌, append_assoc, append-nil}
use Prim.Native.Nat.{ℕ, zero, suc, ◌+◌, ◌*◌, ◌≤◌}
use native.Mathlib.Omega.{arith}
use lib.Dec.{leb}
use lib.ListN.{length, take, drop, length-append}
use lib.Seq.{take-add, drop_at, take_all, drop-drop}
use Rattle.bits.specs.Part.{span, splice}
use Rattle.bits.specs.Tabulate.{tabulate}
use Rattle.bits.proofs.Splice.{length-span, length-splice, span-before, span-inside, splice-splice}
use Rattle.rules.specs.Limits.{frame_record}
use Rattle.queue.specs.Layout.{records_at, record_at, queued, given, stored}
use Rattle.queue.specs.Queue.{Record, id_of, insert, put_all}

-- every record has its 13 bytes
abbrev pub Sized : List Record → Type 0
Sized [] = Unit {0}
Sized (r ∷ q) = (length r ≡ frame_record) × Sized q

pub length-queued : (m : List ℕ) (n : ℕ) → length (queued m n) ≡ n
unfolding queued
length-queued m zero = refl
length-queued m (suc n) = ap suc (length-queued m n)

pub sized-queued : (m : List ℕ) (n : ℕ) → records_at + n * frame_record ≤ length m → Sized (queued m n)
unfolding queued
sized-queued m zero h = tt
sized-queued m (suc n) h = (length-span m (records_at + n * frame_record) frame_record (omega arith), sized-queued m n (omega arith))

pub sized-given : (p : List ℕ) (i n : ℕ) → (i + n) * frame_record ≤ length p → Sized (tabulate (given p) i n)
unfolding tabulate
sized-given p i zero h = tt
sized-given p i (suc n) h = (length-span p (i * frame_record) frame_record (omega arith), sized-given p (suc i) n (omega arith))

pub sized-insert : (r : Record) (q : List Record) → length r ≡ frame_record → Sized q → Sized (insert r q)
unfolding insert
sized-insert r [] l s = (l, tt)
sized-insert r (x ∷ q) l s = go (leb (id_of x) (id_of r)) refl (sized-insert r q l s.1) where
  go : (b : Bool) → leb (id_of x) (id_of r) ≡ b → Sized (insert r q) → Sized (insert r (x ∷ q))
  go true e ih = rw e (s.0, ih)
  go false e ih = rw e (l, s)

pub sized-put : (rs q : List Record) → Sized rs → Sized q → Sized (put_all q rs)
unfolding put_all
sized-put [] q t s = s
sized-put (r ∷ rs) q t s = sized-put rs (insert r q) t.1 (sized-insert r q t.0 s)

-- ── what is stored ──

pub stored-append : (xs ys : List Record) → stored (xs ++ ys) ≡ stored ys ++ stored xs
unfolding stored
stored-append [] ys = sym (append-nil (stored ys))
stored-append (x ∷ xs) ys = ap (λ l. l ++ x) (stored-append xs ys) ∙ append_assoc (stored ys) (stored xs) x

pub length-stored : (q : List Record) → Sized q → length (stored q) ≡ length q * frame_record
unfolding stored
length-stored [] s = refl
length-stored (r ∷ q) s = omega (arith, length-append (stored q) r, length-stored q s.1, s.0)

-- a queue that is stored again is as it was
pub stored-queued : (m : List ℕ) (n : ℕ) → stored (queued m n) ≡ span m records_at (n * frame_record)
unfolding stored queued
stored-queued m zero = refl
stored-queued m (suc n) =
    let e : n * frame_record + frame_record ≡ suc n * frame_record = omega arith in
    ap₂ (λ x y. x ++ y) (stored-queued m n) (dropped m n) ∙ sym (take-add (n * frame_record) frame_record (drop records_at m)) ∙ ap (λ (k : ℕ). span m records_at k) e where
      dropped : (m : List ℕ) (n : ℕ) → record_at m n ≡ take frame_record (drop (n * frame_record) (drop records_at m))
      dropped m n = ap (take frame_record) (sym (drop-drop (n * frame_record) records_at m))

-- places before a store
pub queued-before : (m : List ℕ) (at : ℕ) (ys : List ℕ) → at + length ys ≤ length m → (n : ℕ) → records_at + n * frame_record ≤ at → queued (splice m at ys) n ≡ queued m n
unfolding queued
queued-before m at ys h zero l = refl
queued-before m at ys h (suc n) l = ap₂ (λ x y. x ∷ y) (span-before m at ys h (records_at + n * frame_record) frame_record (omega arith)) (queued-before m at ys h n (omega arith))

-- what is stored is read back
pub queued-stored : (m : List ℕ) (q : List Record) → Sized q → records_at + length q * frame_record ≤ length m → queued (splice m records_at (stored q)) (length q) ≡ q
unfolding queued stored
queued-stored m [] s h = refl
queued-stored m (r ∷ q) s h =
    let l : length (stored q) ≡ length q * frame_record = length-stored q s.1 in
    let f : records_at + length (stored q) ≤ length m = omega arith in
    let a : records_at + length (stored q ++ r) ≤ length m = omega (arith, length-append (stored q) r, s.0) in
    let b : length q * frame_record + frame_record ≤ length (stored q ++ r) = omega (arith, length-append (stored q) r, s.0) in
    let g : records_at + length (stored q) + length r ≤ length (splice m records_at (stored q)) = omega (arith, length-splice m records_at (stored q) f, s.0) in
    ap₂ (λ x y. x ∷ y)
    (span-inside m records_at (stored q ++ r) (length q * frame_record) frame_record a b
    ∙ ap (take frame_record) (drop_at (stored q) r (length q * frame_record) l) ∙ take_all frame_record r (omega (arith, s.0)))
    (ap (λ (x : List ℕ). queued x (length q)) (sym (splice-splice m records_at (stored q) f r))
    ∙ queued-before (splice m records_at (stored q)) (records_at + length (stored q)) r g (length q) (omega arith)
    ∙ queued-stored m q s.1 (omega arith))
