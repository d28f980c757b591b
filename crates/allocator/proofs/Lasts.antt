-- What a call leaves.
use mathlib.Core.Path.{◌≡◌, refl, sym, ap, ◌∙◌}
use mathlib.Core.Bool.{Bool, true, false}
use mathlib.Core.List.{List, [], ◌∷◌, ◌++◌}
use mathlib.Core.Logic.{◌⊎◌, inl, inr}
use mathlib.Core.Option.{Option, none, some}
use Prim.Native.Nat.{ℕ, suc, ◌-◌, ◌≤◌, ◌<◌}
use native.Mathlib.Omega.{arith}
use borrow.Author.Tests.{eq-eqb, ne_eqb, ltb-true, ltb-false}
use lib.Dec.{ltb}
use lib.IntN.{pos}
use lib.ListN.{length}
use Rattle.bits.specs.Little.{le}
use Rattle.shape.specs.Answer.{Answer, refused, got}
use Rattle.shape.specs.Shape.{decoded, encoded}
use Rattle.protocol_dynamic_node_id.specs.Allocation.{allocation}
use Rattle.allocator_table.specs.Layout.{size, table_of, entry_count, sound_state, with_time, with_count, with_gathered, with_entry}
use Rattle.allocator_table.specs.Limits.{unique_id_max, node_max}
use Rattle.allocator_table.specs.Table.{Entry, entry, node_of, insert, below, sound, is_free, lowest_from, highest_below, or_else, given}
use Rattle.allocator_table.proofs.Inserted.{kept-inserted}
use Rattle.allocator_table.proofs.Lasting.{sound-timed, sound-counted, sound-gathered, sound-added}
use Rattle.allocator_table.proofs.Room.{free-givable, free-small, free-unheld, room}
use Rattle.allocator_table.proofs.Search.{low-takes, low-passes, low-all, high-takes, high-passes, given-takes}
use Rattle.allocator_table.proofs.Soundness.{long-enough, table-sound, unique-below, first_fits, rest-sound}
use Rattle.allocator_table.proofs.Views.{table-timed, table_counted, table-gathered, table-added}
use Rattle.allocator.specs.Allocate.{Verdict, Fields, Result, answered, performs, no_own}
use Rattle.allocator.specs.Calls.{Call, result_of, after_calls, Completes}
use Rattle.allocator.specs.Laws.{Chosen, lowest, highest, Entered, StateLasts, TableGrows, IdGiven}
use Rattle.allocator.specs.Stage.{kept_at, joined, preferred}
use Rattle.allocator.proofs.Called.{Expected, Decided, ignores, waits, parts, finds, adds, lacks, Called, faults, disowned, refuses, acts, called}
use Rattle.allocator.proofs.Decisions.{kept-few}
use Rattle.allocator.proofs.Messages.{values_of}
use Rattle.allocator.proofs.Stages.{preferred-le}

-- ── the ID that is given ──

-- above 125 nothing is free
pub none_above : (r : _) (t : List Entry) (k : ℕ) → node_max < k → is_free r t k ≡ false
none_above r t k h = go (is_free r t k) refl where
  go : (b : Bool) → is_free r t k ≡ b → b ≡ false
  go false e = refl
  go true e = absurd (omega (arith, free-small r t k e))

pub is-chosen : (f : ℕ → Bool) (p n : ℕ) → p ≤ node_max → ((k : ℕ) → node_max < k → f k ≡ false) → given f p ≡ some n → Chosen f p n
unfolding given
is-chosen f p n h above e = go (lowest_from f p (suc node_max - p)) refl e where
  from : lowest_from f p (suc node_max - p) ≡ none → (k : ℕ) → p ≤ k → (b : Bool) → ltb node_max k ≡ b → f k ≡ false
  from q k l true w = above k (ltb-true node_max k w)
  from q k l false w = low-all f (suc node_max - p) p q k l (omega (arith, ltb-false node_max k w))

  go : (o : Option ℕ) → lowest_from f p (suc node_max - p) ≡ o → or_else o (highest_below f p) ≡ some n → Chosen f p n
  go (some x) q s =
      let w : x ≡ n = cc in
      let t = q ∙ ap some w in
      lowest (low-takes f (suc node_max - p) p n t) (low-passes f (suc node_max - p) p n t).0 (low-passes f (suc node_max - p) p n t).1
  go none q s = highest (high-takes f p n s) (high-passes f p n s).0 (λ k l. from q k l (ltb node_max k) refl) (high-passes f p n s).1

-- ── one call ──

-- no fault, and the table is the one before, or has an entry more
pub record After (m : List ℕ) (c : Call) (m' : List ℕ) : Type 0 where
  pub sound : sound_state m' ≡ true
  pub table : (table_of m' ≡ table_of m) ⊎ Entered m c (table_of m')

-- a reply that finds no room leaves the state
by-reply : (a : Answer (List ℕ)) (P : List ℕ → Type 0) (m m' out : List ℕ) → P m → P m' → P (answered a m m' out).state
by-reply (refused n) P m m' out x y = x
by-reply (got bs) P m m' out x y = y

module _ (m : List ℕ) (c : Call) (s : sound_state m ≡ true) where
  abbrev t : ℕ
  t = c.request.time

  long : size ≤ length m
  long = long-enough m s

  unchanged : After m c m
  unchanged = record { sound = s; table = inl refl }

  counts : (n : ℕ) → n < unique_id_max → After m c (with_count m n)
  counts n h = record { sound = sound-counted m s n h; table = inl (table_counted m n long) }

  processes : After m c (with_time (with_count m 0) c.request.time)
  processes =
      let k = sound-counted m s 0 (omega arith) in
      record { sound = sound-timed (with_count m 0) k t; table = inl (table-timed (with_count m 0) t (long-enough (with_count m 0) k) ∙ table_counted m 0 long) }

  collects : (g : List ℕ) → length g < unique_id_max → After m c (with_time (with_gathered m g) c.request.time)
  collects g h =
      let k = sound-gathered m s g h in
      record { sound = sound-timed (with_gathered m g) k t; table = inl (table-timed (with_gathered m g) t (long-enough (with_gathered m g) k) ∙ table-gathered m g long (omega arith)) }

  module _ (own : no_own c.request.reserved.own ≡ false) (v : Fields) (r : decoded allocation c.payload ≡ got (values_of v)) (e : Expected m c.request v)
      (l : length (joined m c.request.time v.1.1) ≡ unique_id_max) where
    pub complete : Completes m c (joined m c.request.time v.1.1) v.0
    complete =
        record {
          sound = s;
          own = own;
          anonymous = e.anonymous;
          first = v.1.0;
          part = v.1.1;
          message = r;
          expected = e.accepted;
          whole = l;
          is = refl;
        }

    module _ (n : ℕ) (new : node_of (le (joined m c.request.time v.1.1)) (table_of m) ≡ none)
        (o : given (is_free c.request.reserved (table_of m)) (preferred v.0) ≡ some n) where
      abbrev g : List ℕ
      g = joined m c.request.time v.1.1

      free : is_free c.request.reserved (table_of m) n ≡ true
      free = given-takes (is_free c.request.reserved (table_of m)) (preferred v.0) n o

      few : entry_count m < node_max
      few = room c.request.reserved m n s free

      small : n ≤ node_max
      small = free-small c.request.reserved (table_of m) n free

      added : sound_state (with_entry m g n) ≡ true
      added = sound-added m s g n few l small (free-givable c.request.reserved (table_of m) n free) new (free-unheld c.request.reserved (table_of m) n free)

      pub enters-table : table_of (with_time (with_count (with_entry m (joined m c.request.time v.1.1) n) 0) c.request.time) ≡ insert (entry (le (joined m c.request.time v.1.1)) n) (table_of m)
      enters-table =
          let k = sound-counted (with_entry m g n) added 0 (omega arith) in
          table-timed (with_count (with_entry m g n) 0) t (long-enough (with_count (with_entry m g n) 0) k) ∙ table_counted (with_entry m g n) 0 (long-enough (with_entry m g n) added)
          ∙ table-added m g n long few l (omega (arith, small))

      enters : After m c (with_time (with_count (with_entry m (joined m c.request.time v.1.1) n) 0) c.request.time)
      enters =
          let k = sound-counted (with_entry m g n) added 0 (omega arith) in
          record {
            sound = sound-timed (with_count (with_entry m g n) 0) k t;
            table =
                inr (record {
                  unique = g;
                  prefers = v.0;
                  node = n;
                  completes = complete;
                  new = new;
                  chosen =
                      is-chosen (is_free c.request.reserved (table_of m)) (preferred v.0) n (preferred-le v.0) (none_above c.request.reserved (table_of m)) o;
                  table = enters-table;
                });
          }

  by-verdict : no_own c.request.reserved.own ≡ false → (v : Fields) → decoded allocation c.payload ≡ got (values_of v) → (x : Verdict) → Decided m c.request v x
      → After m c (performs x m c.request.time (joined m c.request.time v.1.1) c.out).state
  unfolding performs
  by-verdict own v r x ignores = unchanged
  by-verdict own v r x waits = counts (kept_at m t) (kept-few m t s)
  by-verdict own v r x (parts e l) =
      by-reply (encoded allocation (pos 0, (pos 0, joined m t v.1.1)) (length c.out)) (After m c) m (with_time (with_gathered m (joined m t v.1.1)) t) c.out unchanged (collects (joined m t v.1.1) l)
  by-verdict own v r x (finds e l n k) =
      by-reply (encoded allocation (pos n, (pos 0, joined m t v.1.1)) (length c.out)) (After m c) m (with_time (with_count m 0) t) c.out unchanged processes
  by-verdict own v r x (adds e l n k o) =
      by-reply (encoded allocation (pos n, (pos 0, joined m t v.1.1)) (length c.out)) (After m c) m (with_time (with_count (with_entry m (joined m t v.1.1) n) 0) t) c.out unchanged (enters own v r e l n k o)
  by-verdict own v r x (lacks e l k o) = counts 0 (omega arith)

  by_call : (x : Result) → Called m c.request c.payload c.out x → After m c x.state
  by_call x faults = unchanged
  by_call x disowned = unchanged
  by_call x (refuses n h) = unchanged
  by_call x (acts s' own v r y d) = by-verdict own v r y d

  pub after : After m c (result_of m c).state
  after = by_call (result_of m c) (called m c.request c.payload c.out)

-- ── lists of calls ──

pub state-lasts : StateLasts
unfolding after_calls
state-lasts m [] s = s
state-lasts m (c ∷ cs) s = state-lasts (result_of m c).state cs (after m c s).sound

-- what is found stays found
kept : (m : List ℕ) (c : Call) (t : List Entry) → (t ≡ table_of m) ⊎ Entered m c t → (u n : ℕ) → node_of u (table_of m) ≡ some n → node_of u t ≡ some n
kept m c t (inl e) u n k = ap (node_of u) e ∙ k
kept m c t (inr e) u n k = ap (node_of u) e.table ∙ kept-inserted (entry (le e.unique) e.node) (table_of m) u n e.new k

pub kept_on : (m : List ℕ) (cs : List Call) → sound_state m ≡ true → (u n : ℕ) → node_of u (table_of m) ≡ some n → node_of u (table_of (after_calls m cs)) ≡ some n
unfolding after_calls
kept_on m [] s u n k = k
kept_on m (c ∷ cs) s u n k =
    let a = after m c s in
    kept_on (result_of m c).state cs a.sound u n (kept m c (table_of (result_of m c).state) a.table u n k)

-- an entry is above those before it
above : (f : Entry) (xs : List Entry) (e : Entry) (ys : List Entry) → sound (f ∷ (xs ++ (e ∷ ys))) ≡ true → f.unique < e.unique
unfolding below
above f [] e ys s = ltb-true f.unique e.unique (unique-below f (e ∷ ys) (first_fits f (e ∷ ys) s))
above f (g ∷ xs) e ys s =
    let t = xs ++ (e ∷ ys) in
    omega (arith, ltb-true f.unique g.unique (unique-below f (g ∷ t) (first_fits f (g ∷ t) s)), above g xs e ys (rest-sound f (g ∷ t) s))

found-behind : (xs : List Entry) (e : Entry) (ys : List Entry) → sound (xs ++ (e ∷ ys)) ≡ true → node_of e.unique (xs ++ (e ∷ ys)) ≡ some e.node
unfolding node_of
found-behind [] e ys s = rw (eq-eqb e.unique e.unique refl)
found-behind (f ∷ xs) e ys s =
    let l = above f xs e ys s in
    rw (ne_eqb f.unique e.unique (λ z. omega arith)) (found-behind xs e ys (rest-sound f (xs ++ (e ∷ ys)) s))

pub table-grows : TableGrows
table-grows =
    record {
      found = λ m s xs e ys q. ap (node_of e.unique) q ∙ found-behind xs e ys (ap sound (sym q) ∙ table-sound m s);
      kept = kept_on;
    }

pub id-given : IdGiven
id-given m c s = (after m c s).table
