-- The view of a state after each of the stores.
use mathlib.Core.Path.{◌≡◌, refl, sym, ap, ap₂, ◌∙◌}
use mathlib.Core.List.{List, [], ◌∷◌, ◌++◌}
use Prim.Native.Nat.{ℕ, zero, suc, ◌+◌, ◌*◌, ◌-◌, ◌^◌, ◌≤◌, ◌<◌}
use native.Mathlib.Nat.{add-zero, zero-add}
use native.Mathlib.Omega.{arith}
use lib.ListN.{length, take, drop}
use lib.Seq.{take_at, drop_at, take-take, drop-drop}
use Rattle.bits.specs.Little.{le, le_bytes}
use Rattle.bits.specs.Part.{span, splice}
use Rattle.bits.specs.Tabulate.{tabulate}
use Rattle.bits.proofs.Little.{le-le_bytes, length-le_bytes}
use Rattle.bits.proofs.Splice.{length-span, length-splice, span_same, span-before, span-behind, span-inside, span-apart}
use Rattle.bits.proofs.Tabulate.{tab-append, tab-same, length-tabulate}
use Rattle.allocator_table.specs.Layout.{time_at, gathered_count_at, entry_count_at, gathered_at, entries_at, entry_size, size, time_of, gathered_count, entry_count, unique_at, node_at, entry_at, table_of, with_time, with_count, with_gathered, opened, with_entry_at, with_entry}
use Rattle.allocator_table.specs.Limits.{unique_id_max, node_max}
use Rattle.allocator_table.specs.Table.{Entry, entry, place_for, insert}
use Rattle.allocator_table.proofs.Tables.{place_in}

byte-back : (v : ℕ) → v < 256 → le (le_bytes 1 v) ≡ v
byte-back v h = le-le_bytes 1 v (omega arith)

-- ── a store before the entries ──

module _ (m : List ℕ) (at : ℕ) (ys : List ℕ) (fits : at + length ys ≤ length m) where
  -- that leaves their number
  module _ (head : at + length ys ≤ entries_at) (apart : (at ≤ entry_count_at → at + length ys ≤ entry_count_at) × (entry_count_at ≤ at → entry_count_at + 1 ≤ at)) where
    same_count : entry_count (splice m at ys) ≡ entry_count m
    unfolding entry_count
    same_count = ap le (span-apart m at ys entry_count_at 1 fits (λ h. apart.1 (omega arith)) apart.0)

    pub same-table : table_of (splice m at ys) ≡ table_of m
    unfolding table_of unique_at node_at
    same-table =
        ap (tabulate (entry_at (splice m at ys)) 0) same_count
        ∙ tab-same (entry_at (splice m at ys)) (entry_at m) (entry_count m) 0
        (λ l a b. ap₂ (λ (x y : List ℕ). entry (le x) (le y)) (span-behind m at ys fits (entries_at + l * entry_size) unique_id_max (omega arith)) (span-behind m at ys fits (entries_at + l * entry_size + unique_id_max) 1 (omega arith)))

-- ── the time ──

module _ (m : List ℕ) (t : ℕ) (long : size ≤ length m) where
  fits-time : time_at + length (le_bytes 8 t) ≤ length m
  fits-time = omega (arith, length-le_bytes 8 t)

  pub length-timed : length (with_time m t) ≡ length m
  unfolding with_time
  length-timed = length-splice m time_at (le_bytes 8 t) fits-time

  pub table-timed : table_of (with_time m t) ≡ table_of m
  unfolding with_time
  table-timed = same-table m time_at (le_bytes 8 t) fits-time (omega (arith, length-le_bytes 8 t)) ((λ h. omega (arith, length-le_bytes 8 t)), (λ h. absurd (omega arith)))

  pub entries-timed : entry_count (with_time m t) ≡ entry_count m
  unfolding with_time
  entries-timed = same_count m time_at (le_bytes 8 t) fits-time (omega (arith, length-le_bytes 8 t)) ((λ h. omega (arith, length-le_bytes 8 t)), (λ h. absurd (omega arith)))

  pub count-timed : gathered_count (with_time m t) ≡ gathered_count m
  unfolding with_time gathered_count
  count-timed = ap le (span-behind m time_at (le_bytes 8 t) fits-time gathered_count_at 1 (omega (arith, length-le_bytes 8 t)))

  pub gathered-timed : (n : ℕ) → span (with_time m t) gathered_at n ≡ span m gathered_at n
  unfolding with_time
  gathered-timed n = span-behind m time_at (le_bytes 8 t) fits-time gathered_at n (omega (arith, length-le_bytes 8 t))

  pub time-timed : t < 2 ^ 64 → time_of (with_time m t) ≡ t
  unfolding with_time time_of
  time-timed h = ap le (span_same m time_at (le_bytes 8 t) fits-time 8 (sym (length-le_bytes 8 t))) ∙ le-le_bytes 8 t (omega arith)

-- ── the number of gathered bytes ──

module _ (m : List ℕ) (n : ℕ) (long : size ≤ length m) where
  fits_count : gathered_count_at + length (le_bytes 1 n) ≤ length m
  fits_count = omega (arith, length-le_bytes 1 n)

  pub length-counted : length (with_count m n) ≡ length m
  unfolding with_count
  length-counted = length-splice m gathered_count_at (le_bytes 1 n) fits_count

  pub table_counted : table_of (with_count m n) ≡ table_of m
  unfolding with_count
  table_counted = same-table m gathered_count_at (le_bytes 1 n) fits_count (omega (arith, length-le_bytes 1 n)) ((λ h. omega (arith, length-le_bytes 1 n)), (λ h. absurd (omega arith)))

  pub entries-counted : entry_count (with_count m n) ≡ entry_count m
  unfolding with_count
  entries-counted = same_count m gathered_count_at (le_bytes 1 n) fits_count (omega (arith, length-le_bytes 1 n)) ((λ h. omega (arith, length-le_bytes 1 n)), (λ h. absurd (omega arith)))

  pub count-counted : n < 256 → gathered_count (with_count m n) ≡ n
  unfolding with_count gathered_count
  count-counted h = ap le (span_same m gathered_count_at (le_bytes 1 n) fits_count 1 (sym (length-le_bytes 1 n))) ∙ byte-back n h

-- ── the gathered bytes ──

module _ (m g : List ℕ) (long : size ≤ length m) (few : length g ≤ unique_id_max) where
  fits-gathered : gathered_at + length g ≤ length (with_count m (length g))
  fits-gathered = omega (arith, length-counted m (length g) long)

  pub length-gathered : length (with_gathered m g) ≡ length m
  unfolding with_gathered
  length-gathered = length-splice (with_count m (length g)) gathered_at g fits-gathered ∙ length-counted m (length g) long

  pub table-gathered : table_of (with_gathered m g) ≡ table_of m
  unfolding with_gathered
  table-gathered =
      same-table (with_count m (length g)) gathered_at g fits-gathered (omega arith) ((λ h. absurd (omega arith)), (λ h. omega arith)) ∙ table_counted m (length g) long

  pub entries-gathered : entry_count (with_gathered m g) ≡ entry_count m
  unfolding with_gathered
  entries-gathered =
      same_count (with_count m (length g)) gathered_at g fits-gathered (omega arith) ((λ h. absurd (omega arith)), (λ h. omega arith)) ∙ entries-counted m (length g) long

  pub count-gathered : gathered_count (with_gathered m g) ≡ length g
  unfolding with_gathered gathered_count
  count-gathered = ap le (span-before (with_count m (length g)) gathered_at g fits-gathered gathered_count_at 1 (omega arith)) ∙ back where
    back : le (span (with_count m (length g)) gathered_count_at 1) ≡ length g
    back = count-counted m (length g) long (omega arith)

  pub bytes-gathered : span (with_gathered m g) gathered_at (length g) ≡ g
  unfolding with_gathered
  bytes-gathered = span_same (with_count m (length g)) gathered_at g fits-gathered (length g) refl

-- ── one entry more ──

-- a part of a part
part_of : (b n k : ℕ) (l : List ℕ) → b + n ≤ k → take n (drop b (take k l)) ≡ take n (drop b l)
part_of zero n k l h = take-take n k l (omega arith)
part_of (suc b) n zero l h = absurd (omega arith)
part_of (suc b) n (suc k) [] h = refl
part_of (suc b) n (suc k) (x ∷ xs) h = part_of b n k xs (omega arith)

span-span : (m : List ℕ) (a k b n : ℕ) → b + n ≤ k → span (span m a k) b n ≡ span m (a + b) n
span-span m a k b n h = part_of b n k (drop a m) h ∙ ap (take n) (drop-drop b a m)

-- where entry i starts
abbrev place : ℕ → ℕ
place i = entries_at + i * entry_size

module _ (m : List ℕ) (p : ℕ) (u : List ℕ) (n : ℕ) (long : size ≤ length m) (in_table : p ≤ entry_count m) (few : entry_count m < node_max) (whole : length u ≡ unique_id_max) where
  length-tail : length (span m (place p) ((entry_count m - p) * entry_size)) ≡ (entry_count m - p) * entry_size
  length-tail = length-span m (place p) ((entry_count m - p) * entry_size) (omega arith)

  fits-opened : place (suc p) + length (span m (place p) ((entry_count m - p) * entry_size)) ≤ length m
  fits-opened = omega (arith, length-tail)

  length-opened : length (opened m p) ≡ length m
  unfolding opened
  length-opened = length-splice m (place (suc p)) (span m (place p) ((entry_count m - p) * entry_size)) fits-opened

  fits-named : place p + length u ≤ length (opened m p)
  fits-named = omega (arith, length-opened)

  length-named : length (splice (opened m p) (place p) u) ≡ length m
  length-named = length-splice (opened m p) (place p) u fits-named ∙ length-opened

  fits-numbered : place p + unique_id_max + length (le_bytes 1 n) ≤ length (splice (opened m p) (place p) u)
  fits-numbered = omega (arith, length-named, length-le_bytes 1 n)

  length-numbered : length (splice (splice (opened m p) (place p) u) (place p + unique_id_max) (le_bytes 1 n)) ≡ length m
  length-numbered = length-splice (splice (opened m p) (place p) u) (place p + unique_id_max) (le_bytes 1 n) fits-numbered ∙ length-named

  fits-entered : entry_count_at + length (le_bytes 1 (suc (entry_count m))) ≤ length (splice (splice (opened m p) (place p) u) (place p + unique_id_max) (le_bytes 1 n))
  fits-entered = omega (arith, length-numbered, length-le_bytes 1 (suc (entry_count m)))

  pub length-entered : length (with_entry_at m p u n) ≡ length m
  unfolding with_entry_at
  length-entered = length-splice (splice (splice (opened m p) (place p) u) (place p + unique_id_max) (le_bytes 1 n)) entry_count_at (le_bytes 1 (suc (entry_count m))) fits-entered ∙ length-numbered

  -- the number of entries
  more : entry_count (with_entry_at m p u n) ≡ suc (entry_count m)
  unfolding with_entry_at entry_count
  more =
      ap le (span_same (splice (splice (opened m p) (place p) u) (place p + unique_id_max) (le_bytes 1 n)) entry_count_at (le_bytes 1 (suc (entry_count m))) fits-entered 1 (sym (length-le_bytes 1 (suc (entry_count m)))))
      ∙ byte-back (suc (entry_count m)) (omega arith)

  -- a part past the head, before the number of entries was written
  past : (a k : ℕ) → gathered_at ≤ a → span (with_entry_at m p u n) a k ≡ span (splice (splice (opened m p) (place p) u) (place p + unique_id_max) (le_bytes 1 n)) a k
  unfolding with_entry_at
  past a k h =
      span-behind (splice (splice (opened m p) (place p) u) (place p + unique_id_max) (le_bytes 1 n)) entry_count_at (le_bytes 1 (suc (entry_count m))) fits-entered a k (omega (arith, length-le_bytes 1 (suc (entry_count m))))

  -- the number of gathered bytes stays
  pub count-entered : gathered_count (with_entry_at m p u n) ≡ gathered_count m
  unfolding with_entry_at gathered_count opened
  count-entered =
      ap le (span-before (splice (splice (opened m p) (place p) u) (place p + unique_id_max) (le_bytes 1 n)) entry_count_at (le_bytes 1 (suc (entry_count m))) fits-entered gathered_count_at 1 (omega arith)
      ∙ span-before (splice (opened m p) (place p) u) (place p + unique_id_max) (le_bytes 1 n) fits-numbered gathered_count_at 1 (omega arith)
      ∙ span-before (opened m p) (place p) u fits-named gathered_count_at 1 (omega arith)
      ∙ span-before m (place (suc p)) (span m (place p) ((entry_count m - p) * entry_size)) fits-opened gathered_count_at 1 (omega arith))

  -- parts of the entries below, of the new one, and of those above
  low : (a k : ℕ) → gathered_at ≤ a → a + k ≤ place p → span (with_entry_at m p u n) a k ≡ span m a k
  unfolding opened
  low a k g h =
      past a k g ∙ span-before (splice (opened m p) (place p) u) (place p + unique_id_max) (le_bytes 1 n) fits-numbered a k (omega arith)
      ∙ span-before (opened m p) (place p) u fits-named a k h
      ∙ span-before m (place (suc p)) (span m (place p) ((entry_count m - p) * entry_size)) fits-opened a k (omega arith)

  new-unique : span (with_entry_at m p u n) (place p) unique_id_max ≡ u
  new-unique =
      past (place p) unique_id_max (omega arith) ∙ span-before (splice (opened m p) (place p) u) (place p + unique_id_max) (le_bytes 1 n) fits-numbered (place p) unique_id_max (omega arith)
      ∙ span_same (opened m p) (place p) u fits-named unique_id_max (sym whole)

  new-node : span (with_entry_at m p u n) (place p + unique_id_max) 1 ≡ le_bytes 1 n
  new-node =
      past (place p + unique_id_max) 1 (omega arith)
      ∙ span_same (splice (opened m p) (place p) u) (place p + unique_id_max) (le_bytes 1 n) fits-numbered 1 (sym (length-le_bytes 1 n))

  high : (j o k : ℕ) → p ≤ j → j < entry_count m → o + k ≤ entry_size → span (with_entry_at m p u n) (place (suc j) + o) k ≡ span m (place j + o) k
  unfolding opened
  high j o k h l f =
      let e : place (suc j) + o ≡ place (suc p) + ((j - p) * entry_size + o) = omega arith in
      let d : place p + ((j - p) * entry_size + o) ≡ place j + o = omega arith in
      let r : (j - p) * entry_size + o + k ≤ (entry_count m - p) * entry_size = omega arith in
      past (place (suc j) + o) k (omega arith)
      ∙ span-behind (splice (opened m p) (place p) u) (place p + unique_id_max) (le_bytes 1 n) fits-numbered (place (suc j) + o) k (omega (arith, length-le_bytes 1 n))
      ∙ span-behind (opened m p) (place p) u fits-named (place (suc j) + o) k (omega arith)
      ∙ ap (λ (x : ℕ). span (opened m p) x k) e
      ∙ span-inside m (place (suc p)) (span m (place p) ((entry_count m - p) * entry_size)) ((j - p) * entry_size + o) k fits-opened (omega (arith, length-tail))
      ∙ span-span m (place p) ((entry_count m - p) * entry_size) ((j - p) * entry_size + o) k r ∙ ap (λ (x : ℕ). span m x k) d

  -- entry by entry
  entry-low : (l : ℕ) → l < p → entry_at (with_entry_at m p u n) l ≡ entry_at m l
  unfolding unique_at node_at
  entry-low l h = ap₂ (λ (x y : List ℕ). entry (le x) (le y)) (low (place l) unique_id_max (omega arith) (omega arith)) (low (place l + unique_id_max) 1 (omega arith) (omega arith))

  entry_new : n < 256 → entry_at (with_entry_at m p u n) p ≡ entry (le u) n
  unfolding unique_at node_at
  entry_new h = ap₂ entry (ap le new-unique) (ap le new-node ∙ byte-back n h)

  entry-high : (j : ℕ) → p ≤ j → j < entry_count m → entry_at (with_entry_at m p u n) (suc j) ≡ entry_at m j
  unfolding unique_at node_at
  entry-high j h l =
      ap₂ (λ (x y : List ℕ). entry (le x) (le y))
      (ap (λ (a : ℕ). span (with_entry_at m p u n) a unique_id_max) (sym (add-zero (place (suc j)))) ∙ high j 0 unique_id_max h l (omega arith) ∙ ap (λ (a : ℕ). span m a unique_id_max) (add-zero (place j)))
      (high j unique_id_max 1 h l (omega arith))

  -- the table, in its three parts
  shifted : (k i : ℕ) → p ≤ i → i + k ≤ entry_count m → tabulate (entry_at (with_entry_at m p u n)) (suc i) k ≡ tabulate (entry_at m) i k
  unfolding tabulate
  shifted zero i h l = refl
  shifted (suc k) i h l = ap₂ (λ (x : Entry) (xs : List Entry). x ∷ xs) (entry-high i h (omega arith)) (shifted k (suc i) (omega arith) (omega arith))

  pub table-entered : n < 256 → table_of (with_entry_at m p u n) ≡ take p (table_of m) ++ (entry (le u) n ∷ drop p (table_of m))
  unfolding table_of tabulate
  table-entered h =
      let c = entry_count m in
      let f = entry_at (with_entry_at m p u n) in
      let g = entry_at m in
      let e : suc c ≡ p + suc (c - p) = omega arith in
      let d : c ≡ p + (c - p) = omega arith in
      let a : tabulate g 0 c ≡ tabulate g 0 p ++ tabulate g (0 + p) (c - p) = ap (tabulate g 0) d ∙ tab-append g 0 p (c - p) in
      let t : take p (tabulate g 0 c) ≡ tabulate g 0 p = ap (take p) a ∙ take_at (tabulate g 0 p) (tabulate g (0 + p) (c - p)) p (length-tabulate g 0 p) in
      let r : drop p (tabulate g 0 c) ≡ tabulate g p (c - p) = ap (drop p) a ∙ drop_at (tabulate g 0 p) (tabulate g (0 + p) (c - p)) p (length-tabulate g 0 p) ∙ ap (λ (x : ℕ). tabulate g x (c - p)) (zero-add p) in
      ap (tabulate f 0) (more ∙ e) ∙ tab-append f 0 p (suc (c - p)) ∙ ap (λ (x : ℕ). tabulate f 0 p ++ tabulate f x (suc (c - p))) (zero-add p)
      ∙ ap₂ (λ (x : List Entry) (y : Entry). x ++ (y ∷ tabulate f (suc p) (c - p))) (tab-same f g p 0 (λ l v w. entry-low l (omega arith)) ∙ sym t) (entry_new h)
      ∙ ap (λ (x : List Entry). take p (tabulate g 0 c) ++ (entry (le u) n ∷ x)) (shifted (c - p) p (omega arith) (omega arith) ∙ sym r)

-- where it belongs
module _ (m u : List ℕ) (n : ℕ) (long : size ≤ length m) (few : entry_count m < node_max) (whole : length u ≡ unique_id_max) where
  pub length-added : length (with_entry m u n) ≡ length m
  unfolding with_entry
  length-added = length-entered m (place_for (le u) (table_of m)) u n long (place_in m (le u)) few whole

  pub table-added : n < 256 → table_of (with_entry m u n) ≡ insert (entry (le u) n) (table_of m)
  unfolding with_entry insert
  table-added h = table-entered m (place_for (le u) (table_of m)) u n long (place_in m (le u)) few whole h

  pub count-added : gathered_count (with_entry m u n) ≡ gathered_count m
  unfolding with_entry
  count-added = count-entered m (place_for (le u) (table_of m)) u n long (place_in m (le u)) few whole

  pub entries-added : entry_count (with_entry m u n) ≡ suc (entry_count m)
  unfolding with_entry
  entries-added = more m (place_for (le u) (table_of m)) u n long (place_in m (le u)) few whole
