-- The bytes of a queue as records go in.
use mathlib.Core.Path.{◌≡◌, refl, sym, ap, ap₂, ◌∙◌}
use mathlib.Core.List.{List, [], ◌++◌, append_assoc}
use Prim.Native.Nat.{ℕ, suc, ◌+◌, ◌*◌, ◌-◌, ◌≤◌}
use native.Mathlib.Omega.{arith}
use lib.ListN.{length, take, drop, length-append}
use lib.Seq.{take-append-le, take-take, take-add, drop_at, length-take-le, drop-drop}
use Rattle.bits.specs.Part.{span, splice}
use Rattle.bits.specs.Tabulate.{tabulate}
use Rattle.bits.proofs.Splice.{length-span, length-splice, drop-splice, splice-splice, splice-next, splice-same}
use Rattle.bits.proofs.Tabulate.{length-tabulate, tab-append}
use Rattle.rules.specs.Limits.{frame_record}
use Rattle.bits.specs.Little.{le_bytes}
use Rattle.queue.specs.Layout.{count_at, records_at, queued, given, stored, holding}
use Rattle.queue.specs.Queue.{Record, id_of, put_all}
use Rattle.queue.specs.inside.Run.{Run, front, behind}
use Rattle.queue.proofs.Order.{split, put-run, put-append, length-put}
use Rattle.queue.proofs.Records.{next}
use Rattle.queue.proofs.Places.{Sized, length-queued, sized-queued, sized-given, sized-put, stored-append, length-stored, stored-queued, queued-stored}

take-front : (m : List ℕ) (at n : ℕ) (ys : List ℕ) → at ≤ n → n ≤ length m → take at (splice m n ys) ≡ take at m
take-front m at n ys h l =
    take-append-le at (take n m) (ys ++ drop (n + length ys) m) (omega (arith, length-take-le n m l)) ∙ take-take at n m h

-- a store right before another
pub splice-before : (m : List ℕ) (at : ℕ) (ys zs : List ℕ) → at + length ys + length zs ≤ length m
    → splice (splice m (at + length ys) zs) at ys ≡ splice m at (ys ++ zs)
splice-before m at ys zs h =
    let n = at + length ys in
    let e : n + length zs ≡ at + length (ys ++ zs) = omega (arith, length-append ys zs) in
    ap₂ (λ x y. x ++ (ys ++ y)) (take-front m at n zs (omega arith) (omega arith)) (drop_at (take n m) (zs ++ drop (n + length zs) m) n (length-take-le n m (omega arith)))
    ∙ ap (λ x. take at m ++ x) (sym (append_assoc ys zs (drop (n + length zs) m))) ∙ ap (λ (k : ℕ). take at m ++ ((ys ++ zs) ++ drop k m)) e

-- a store over a shorter one
pub splice-over : (m : List ℕ) (at : ℕ) (xs ys : List ℕ) → at + length ys ≤ length m → length xs ≤ length ys → splice (splice m at xs) at ys ≡ splice m at ys
splice-over m at xs ys h l =
    let k = length ys - length xs in
    let e : at + length xs + k ≡ at + length ys = omega arith in
    ap₂ (λ x y. x ++ (ys ++ y)) (take-front m at at xs (omega arith) (omega arith))
    (ap (λ (j : ℕ). drop j (splice m at xs)) (sym e) ∙ sym (drop-drop k (at + length xs) (splice m at xs))
    ∙ ap (drop k) (drop-splice m at xs (omega arith)) ∙ drop-drop k (at + length xs) m ∙ ap (λ (j : ℕ). drop j m) e)

-- a store behind a part that stays
pub splice-joined : (m : List ℕ) (at n : ℕ) (bs ys : List ℕ) → length bs ≡ n → bs ≡ span m at n → at + n ≤ length m → splice m (at + n) ys ≡ splice m at (bs ++ ys)
splice-joined m at n bs ys l e h =
    ap₂ (λ x (k : ℕ). splice x (at + k) ys) (sym (splice-same m at bs n l e)) (sym l) ∙ splice-splice m at bs (omega arith) ys

length-kept : (m : List ℕ) (j : ℕ) → records_at + j * frame_record ≤ length m → length (stored (queued m j)) ≡ j * frame_record
length-kept m j h = ap length (stored-queued m j) ∙ length-span m records_at (j * frame_record) h

-- records of one ID: what is behind them stays, what is in front of them moves up, and they go between
module _ (m p : List ℕ) (n i e b : ℕ) (r : Run (given p) i e e) (le : b ≤ n) (room : records_at + (n + (e - i)) * frame_record ≤ length m) (whole : e * frame_record ≤ length p)
    (is : queued m b ≡ behind (id_of (given p i)) (queued m n)) where
  abbrev rs : List Record
  rs = tabulate (given p) i (e - i)

  abbrev before : List Record
  before = front (id_of (given p i)) (queued m n)

  parts : queued m n ≡ before ++ queued m b
  parts = sym (split (id_of (given p i)) (queued m n)) ∙ ap (λ x. before ++ x) (sym is)

  after : put_all (queued m n) rs ≡ before ++ (rs ++ queued m b)
  after =
      put-run (given p) (id_of (given p i)) (e - i) i (λ j x y. r.alike j x (omega (arith, r.some))) (queued m n)
      ∙ ap (λ x. before ++ (rs ++ x)) (sym is)

  stays : length (stored (queued m b)) ≡ b * frame_record
  stays = length-kept m b (omega arith)

  new : length (stored rs) ≡ (e - i) * frame_record
  new = length-stored rs (sized-given p i (e - i) (omega (arith, r.some))) ∙ ap (λ (k : ℕ). k * frame_record) (length-tabulate (given p) i (e - i))

  moves : span m (records_at + b * frame_record) ((n - b) * frame_record) ≡ stored before
  moves =
      let a : b * frame_record + (n - b) * frame_record ≡ n * frame_record = omega arith in
      let s : stored (queued m b) ++ span m (records_at + b * frame_record) ((n - b) * frame_record) ≡ stored (queued m b) ++ stored before =
      ap₂ (λ x y. x ++ y) (stored-queued m b) (ap (take ((n - b) * frame_record)) (sym (drop-drop (b * frame_record) records_at m)))
      ∙ sym (take-add (b * frame_record) ((n - b) * frame_record) (drop records_at m)) ∙ ap (λ (k : ℕ). span m records_at k) a
      ∙ sym (stored-queued m n) ∙ ap stored parts ∙ stored-append before (queued m b) in
      sym (drop_at (stored (queued m b)) (span m (records_at + b * frame_record) ((n - b) * frame_record)) (length (stored (queued m b))) refl)
      ∙ ap (drop (length (stored (queued m b)))) s ∙ drop_at (stored (queued m b)) (stored before) (length (stored (queued m b))) refl

  pub put_in : (m₁ m₂ : List ℕ) → m₁ ≡ splice m (records_at + b * frame_record + (e - i) * frame_record) (span m (records_at + b * frame_record) ((n - b) * frame_record))
      → m₂ ≡ splice m₁ (records_at + b * frame_record) (stored rs) → m₂ ≡ splice m records_at (stored (put_all (queued m n) rs))
  put_in m₁ m₂ e₁ e₂ =
      let at = records_at + b * frame_record in
      let f : length (stored before) ≡ (n - b) * frame_record = ap length (sym moves) ∙ length-span m at ((n - b) * frame_record) (omega arith) in
      e₂ ∙ ap (λ x. splice x at (stored rs)) (e₁ ∙ ap₂ (λ (k : ℕ) x. splice m (at + k) x) (sym new) moves)
      ∙ splice-before m at (stored rs) (stored before) (omega (arith, new, f))
      ∙ splice-joined m records_at (b * frame_record) (stored (queued m b)) (stored rs ++ stored before) stays (stored-queued m b) (omega arith)
      ∙ ap (splice m records_at)
      (sym (append_assoc (stored (queued m b)) (stored rs) (stored before)) ∙ ap (λ x. x ++ stored before) (sym (stored-append rs (queued m b)))
      ∙ sym (stored-append before (rs ++ queued m b)) ∙ ap stored (sym after))

-- ── records copied one by one, the last one first ──

pub copied_none : (m p : List ℕ) (at e : ℕ) → m ≡ splice m at (stored (tabulate (given p) e (e - e)))
unfolding stored tabulate
copied_none m p at e = let z : e - e ≡ 0 = omega arith in rw z (sym (splice-same m at [] 0 refl refl))

-- one record more in front of those that are stored
more : (p : List ℕ) (e j i : ℕ) → j ≡ suc i → j ≤ e → stored (tabulate (given p) j (e - j)) ++ given p i ≡ stored (tabulate (given p) i (e - i))
unfolding stored
more p e j i s h = ap (λ (k : ℕ). stored (tabulate (given p) k (e - k)) ++ given p i) s ∙ sym (ap stored (next (given p) i e (omega arith)))

pub copied_more : (m p m₁ m₂ : List ℕ) (at to e j i : ℕ) → j ≡ suc i → j ≤ e → e * frame_record ≤ length p → at + (e - i) * frame_record ≤ length m
    → to ≡ at + (e - j) * frame_record → m₁ ≡ splice m at (stored (tabulate (given p) j (e - j))) → m₂ ≡ splice m₁ to (given p i)
    → (length m₂ ≡ length m) × (m₂ ≡ splice m at (stored (tabulate (given p) i (e - i))))
copied_more m p m₁ m₂ at to e j i s h w r t e₁ e₂ =
    let l : length (stored (tabulate (given p) j (e - j))) ≡ (e - j) * frame_record =
    length-stored (tabulate (given p) j (e - j)) (sized-given p j (e - j) (omega arith)) ∙ ap (λ (k : ℕ). k * frame_record) (length-tabulate (given p) j (e - j)) in
    let g : length (given p i) ≡ frame_record = length-span p (i * frame_record) frame_record (omega arith) in
    let x : m₂ ≡ splice m at (stored (tabulate (given p) j (e - j)) ++ given p i) =
    splice-next m m₁ m₂ at ((e - j) * frame_record) (stored (tabulate (given p) j (e - j))) (given p i) (omega arith) l e₁ (e₂ ∙ ap (λ (k : ℕ). splice m₁ k (given p i)) t) in
    let y : at + length (stored (tabulate (given p) j (e - j)) ++ given p i) ≤ length m =
    omega (arith, length-append (stored (tabulate (given p) j (e - j))) (given p i), l, g) in (
      ap length x ∙ length-splice m at (stored (tabulate (given p) j (e - j)) ++ given p i) y,
      x ∙ ap (splice m at) (more p e j i s h),
    )

-- ── the number of records ──

pub holding-none : (m : List ℕ) → splice m count_at (le_bytes 8 0) ≡ holding m []
unfolding holding stored
holding-none m = ap (λ x. splice x count_at (le_bytes 8 0)) (sym (splice-same m records_at [] 0 refl refl))

-- m with the first j records alone, which are there already
pub holding-fewer : (m : List ℕ) (j : ℕ) → records_at + j * frame_record ≤ length m → splice m count_at (le_bytes 8 j) ≡ holding m (queued m j)
unfolding holding
holding-fewer m j h =
    ap₂ (λ x (k : ℕ). splice x count_at (le_bytes 8 k)) (sym (splice-same m records_at (stored (queued m j)) (j * frame_record) (length-kept m j h) (stored-queued m j))) (sym (length-queued m j))

-- ── run after run ──

module _ (m p : List ℕ) (n k : ℕ) (room : records_at + (n + k) * frame_record ≤ length m) (whole : k * frame_record ≤ length p) where
  abbrev so : ℕ → List Record
  so i = put_all (queued m n) (tabulate (given p) 0 i)

  count-so : (i : ℕ) → length (so i) ≡ n + i
  count-so i = omega (arith, length-put (tabulate (given p) 0 i) (queued m n), length-queued m n, length-tabulate (given p) 0 i)

  module _ (i : ℕ) (few : i ≤ k) where
    sized-so : Sized (so i)
    sized-so = sized-put (tabulate (given p) 0 i) (queued m n) (sized-given p 0 i (omega arith)) (sized-queued m n (omega arith))

    long-so : length (stored (so i)) ≡ (n + i) * frame_record
    long-so = length-stored (so i) sized-so ∙ ap (λ (x : ℕ). x * frame_record) (count-so i)

    fits-so : records_at + length (stored (so i)) ≤ length m
    fits-so = omega (arith, long-so)

  pub all_none : m ≡ splice m records_at (stored (so 0))
  unfolding put_all tabulate
  all_none = sym (splice-same m records_at (stored (queued m n)) (n * frame_record) (length-kept m n (omega arith)) (stored-queued m n))

  pub all_more : (M M' : List ℕ) (i e : ℕ) → i ≤ e → e ≤ k → M ≡ splice m records_at (stored (so i))
      → M' ≡ splice M records_at (stored (put_all (queued M (n + i)) (tabulate (given p) i (e - i))))
      → (length M' ≡ length m) × (M' ≡ splice m records_at (stored (so e)))
  all_more M M' i e h l e₁ e₂ =
      let z : i + (e - i) ≡ e = omega arith in
      let y : 0 + i ≡ i = omega arith in
      let a : queued M (n + i) ≡ so i =
      ap₂ queued e₁ (sym (count-so i)) ∙ queued-stored m (so i) (sized-so i (omega arith)) (omega (arith, count-so i)) in
      let b : put_all (so i) (tabulate (given p) i (e - i)) ≡ so e =
      sym (put-append (tabulate (given p) 0 i) (tabulate (given p) i (e - i)) (queued m n))
      ∙ ap (put_all (queued m n)) (ap (λ (x : ℕ). tabulate (given p) 0 i ++ tabulate (given p) x (e - i)) (sym y) ∙ sym (tab-append (given p) 0 i (e - i)) ∙ ap (tabulate (given p) 0) z) in
      let x : M' ≡ splice m records_at (stored (so e)) =
      e₂ ∙ ap₂ (λ u v. splice u records_at (stored v)) e₁ (ap (λ q. put_all q (tabulate (given p) i (e - i))) a ∙ b)
      ∙ splice-over m records_at (stored (so i)) (stored (so e)) (fits-so e l) (omega (arith, long-so i (omega arith), long-so e l)) in
      (ap length x ∙ length-splice m records_at (stored (so e)) (fits-so e l), x)

  -- the number of records is written last
  pub all-counted : (M M' : List ℕ) → M ≡ splice m records_at (stored (so k)) → M' ≡ splice M count_at (le_bytes 8 (n + k)) → M' ≡ holding m (so k)
  unfolding holding
  all-counted M M' e₁ e₂ = e₂ ∙ ap₂ (λ x (j : ℕ). splice x count_at (le_bytes 8 j)) e₁ (sym (count-so k))
