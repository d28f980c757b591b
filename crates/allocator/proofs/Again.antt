-- Known unique IDs, node IDs that differ, and unique IDs that are turned away.
use mathlib.Core.Path.{◌≡◌, refl, sym, ap, ◌∙◌}
use mathlib.Core.Bool.{Bool, true, false, false≢true, ◌||◌}
use mathlib.Core.List.{List, [], ◌∷◌}
use mathlib.Core.Option.{Option, none, some}
use Prim.Native.Nat.{ℕ, suc, ◌-◌, ◌≤◌, ◌<◌}
use native.Mathlib.Omega.{arith}
use borrow.Author.Tests.{eqb-true, eq-eqb, ltb-true, ltb-false}
use lib.Dec.{eqb, ltb}
use lib.IntN.{pos}
use lib.ListN.{length}
use Rattle.bits.specs.Little.{le}
use Rattle.rules.specs.Tests.{pick}
use Rattle.shape.specs.Answer.{Answer, refused, got}
use Rattle.shape.specs.Shape.{Values, decoded, encoded}
use Rattle.protocol_dynamic_node_id.specs.Allocation.{allocation}
use Rattle.allocator_table.specs.Layout.{table_of, sound_state, with_time, with_count, with_gathered, with_entry}
use Rattle.allocator_table.specs.Limits.{unique_id_max, node_max}
use Rattle.allocator_table.specs.Table.{Entry, holds, node_of, sound, is_free, lowest_from, highest_below, or_else, given}
use Rattle.allocator_table.proofs.Room.{free-givable, free-small, free-not-own, free-unmarked, free-unheld}
use Rattle.allocator_table.proofs.Search.{low-all, high-all, given-takes}
use Rattle.allocator_table.proofs.Soundness.{table-sound, first_fits, rest-sound, node-once}
use Rattle.allocator.specs.Allocate.{Verdict, exhausted, allots, completes, Fields, decide, Result, answered, performs, on_message, no_own}
use Rattle.allocator.specs.Calls.{Call, result_of, after_calls, Reply, Completes, NoneFree}
use Rattle.allocator.specs.Laws.{SameIdAgain, Chosen, lowest, highest, IdsDiffer, Away, TurnedAway}
use Rattle.allocator.specs.Stage.{joined, preferred}
use Rattle.allocator.specs.declared.Request.{Request}
use Rattle.std.specs.Prelude.{Err}
use Rattle.allocator.specs.declared.answer.AllocateError.TheVariants.{Exhausted}
use Rattle.allocator.proofs.Called.{Decided, ignores, waits, parts, finds, adds, lacks, Called, faults, disowned, refuses, acts, called, by-message}
use Rattle.allocator.proofs.Decisions.{known_small, is-whole}
use Rattle.allocator.proofs.Lasts.{none_above, complete, kept_on}
use Rattle.allocator.proofs.Messages.{values_of}
use Rattle.allocator.proofs.Reading.{reply-is}
use Rattle.allocator.proofs.Stages.{preferred-le}

-- ── the same node ID again ──

module _ (m : List ℕ) (c : Call) (g : List ℕ) (whole : length g ≡ unique_id_max) (n : ℕ) (known : node_of (le g) (table_of m) ≡ some n) (k : ℕ) where
  abbrev t : ℕ
  t = c.request.time

  by-verdict : sound_state m ≡ true → (v : Fields) (x : Verdict) → Decided m c.request v x → Reply (performs x m c.request.time (joined m c.request.time v.1.1) c.out) k g → k ≡ n
  unfolding performs
  by-verdict s v x ignores r = absurd (let q = r.answer in let z : ◌≡◌ {A = ℕ} 0 1 = cc in omega arith)
  by-verdict s v x waits r = absurd (let q = r.answer in let z : ◌≡◌ {A = ℕ} 0 1 = cc in omega arith)
  by-verdict s v x (parts e l) r =
      let w = reply-is 0 (joined m t v.1.1) (omega arith) (length c.out) m (with_time (with_gathered m (joined m t v.1.1)) t) c.out k g r in
      absurd (omega (arith, ap length w.1))
  by-verdict s v x (finds e l i f) r =
      let h = known_small m (le (joined m t v.1.1)) i s f in
      let w = reply-is i (joined m t v.1.1) (omega arith) (length c.out) m (with_time (with_count m 0) t) c.out k g r in
      let a : some n ≡ some i = sym known ∙ sym (ap (λ (y : List ℕ). node_of (le y) (table_of m)) w.1) ∙ f in
      let b : n ≡ i = cc in
      omega (arith, w.0)
  by-verdict s v x (adds e l i f o) r =
      let h = free-small c.request.reserved (table_of m) i (given-takes (is_free c.request.reserved (table_of m)) (preferred v.0) i o) in
      let w = reply-is i (joined m t v.1.1) (omega arith) (length c.out) m (with_time (with_count (with_entry m (joined m t v.1.1) i) 0) t) c.out k g r in
      let a : some n ≡ none = sym known ∙ sym (ap (λ (y : List ℕ). node_of (le y) (table_of m)) w.1) ∙ f in
      absurd (let z : ◌≡◌ {A = ℕ} 0 1 = cc in omega arith)
  by-verdict s v x (lacks e l f o) r = absurd (let q = r.answer in let z : ◌≡◌ {A = ℕ} 0 1 = cc in omega arith)

  by_call : (x : Result) → Called m c.request c.payload c.out x → Reply x k g → k ≡ n
  by_call x faults r = absurd (let q = r.answer in let z : ◌≡◌ {A = ℕ} 0 1 = cc in omega arith)
  by_call x disowned r = absurd (let q = r.answer in let z : ◌≡◌ {A = ℕ} 0 1 = cc in omega arith)
  by_call x (refuses i h) r = absurd (let q = r.answer in let z : ◌≡◌ {A = ℕ} 0 1 = cc in omega arith)
  by_call x (acts s o v d y e) r = by-verdict s v y e r

pub same-id-again : SameIdAgain
same-id-again m cs c s g whole n known k r =
    let m' = after_calls m cs in
    by_call m' c g whole n (kept_on m cs s (le g) n known) k (result_of m' c) (called m' c.request c.payload c.out) r

-- ── node IDs differ ──

found-held : (t : List Entry) (u n : ℕ) → node_of u t ≡ some n → holds n t ≡ true
unfolding node_of holds
found-held [] u n k = absurd (let z : ◌≡◌ {A = ℕ} 0 1 = cc in omega arith)
found-held (e ∷ t) u n k = go (found-held t u n) (eqb e.unique u) k where
  right : (b : Bool) → (b || true) ≡ true
  right true = refl
  right false = refl

  go : (node_of u t ≡ some n → holds n t ≡ true) → (b : Bool) → pick b (some e.node) (node_of u t) ≡ some n → (eqb e.node n || holds n t) ≡ true
  go later true q = let w : e.node ≡ n = cc in rw (eq-eqb e.node n w)
  go later false q = rw (later q) (right (eqb e.node n))

entries-differ : (t : List Entry) → sound t ≡ true → (u v n : ℕ) → node_of u t ≡ some n → node_of v t ≡ some n → u ≡ v
unfolding node_of
entries-differ [] s u v n p q = absurd (let z : ◌≡◌ {A = ℕ} 0 1 = cc in omega arith)
entries-differ (e ∷ t) s u v n p q = go (entries-differ t (rest-sound e t s) u v n) (eqb e.unique u) refl p (eqb e.unique v) refl q where
  once : (x : ℕ) → e.node ≡ n → node_of x t ≡ some n → u ≡ v
  once x d k = absurd (false≢true (sym (node-once e t (first_fits e t s)) ∙ ap (λ (y : ℕ). holds y t) d ∙ found-held t x n k))

  go : (node_of u t ≡ some n → node_of v t ≡ some n → u ≡ v) → (a : Bool) → eqb e.unique u ≡ a → pick a (some e.node) (node_of u t) ≡ some n
      → (b : Bool) → eqb e.unique v ≡ b → pick b (some e.node) (node_of v t) ≡ some n → u ≡ v
  go later true x k true y l = sym (eqb-true e.unique u x) ∙ eqb-true e.unique v y
  go later true x k false y l = let d : e.node ≡ n = cc in once v d l
  go later false x k true y l = let d : e.node ≡ n = cc in once u d k
  go later false x k false y l = later k l

chosen-takes : (f : ℕ → Bool) (p n : ℕ) → Chosen f p n → f n ≡ true
chosen-takes f p n (lowest t a b) = t
chosen-takes f p n (highest t a b d) = t

pub ids-differ : IdsDiffer
ids-differ =
    record {
      entries = λ m s. entries-differ (table_of m) (table-sound m s);
      given = λ m c t e.
          let f = chosen-takes (is_free c.request.reserved (table_of m)) (preferred e.prefers) e.node e.chosen in
          record {
            givable = free-givable c.request.reserved (table_of m) e.node f;
            not_own = free-not-own c.request.reserved (table_of m) e.node f;
            unmarked = free-unmarked c.request.reserved (table_of m) e.node f;
            unheld = free-unheld c.request.reserved (table_of m) e.node f;
          };
    }

-- ── turned away ──

pub none-given : (f : ℕ → Bool) (p : ℕ) → p ≤ node_max → ((k : ℕ) → node_max < k → f k ≡ false) → given f p ≡ none → (k : ℕ) → f k ≡ false
unfolding given
none-given f p h above e k = go (lowest_from f p (suc node_max - p)) refl e (ltb k p) refl (ltb node_max k) refl where
  go : (o : Option ℕ) → lowest_from f p (suc node_max - p) ≡ o → or_else o (highest_below f p) ≡ none → (a : Bool) → ltb k p ≡ a → (b : Bool) → ltb node_max k ≡ b → f k ≡ false
  go (some x) q s a w b y = absurd (let z : ◌≡◌ {A = ℕ} 0 1 = cc in omega arith)
  go none q s true w b y = high-all f p s k (ltb-true k p w)
  go none q s false w true y = above k (ltb-true node_max k y)
  go none q s false w false y = low-all f (suc node_max - p) p q k (ltb-false k p w) (omega (arith, ltb-false node_max k y))

given-none : (f : ℕ → Bool) (p : ℕ) → ((k : ℕ) → f k ≡ false) → given f p ≡ none
given-none f p taken = go (given f p) refl where
  go : (o : Option ℕ) → given f p ≡ o → o ≡ none
  go none e = refl
  go (some n) e = absurd (false≢true (sym (taken n) ∙ given-takes f p n e))

not-exhausted : (a : Answer (List ℕ)) (m m' out : List ℕ) → (answered a m m' out).answer ≡ Err Exhausted → ⊥
not-exhausted (refused n) m m' out e = let z : ◌≡◌ {A = ℕ} 0 1 = cc in omega arith
not-exhausted (got bs) m m' out e = let z : ◌≡◌ {A = ℕ} 0 1 = cc in omega arith

module _ (m : List ℕ) (c : Call) where
  abbrev q : Request
  q = c.request

  away-by : sound_state m ≡ true → no_own c.request.reserved.own ≡ false → (v : Fields) → decoded allocation c.payload ≡ got (values_of v) → (x : Verdict) → Decided m c.request v x
      → (performs x m c.request.time (joined m c.request.time v.1.1) c.out).answer ≡ Err Exhausted → Away m c
  unfolding performs
  away-by s o v r x ignores e = absurd (let z : ◌≡◌ {A = ℕ} 0 1 = cc in omega arith)
  away-by s o v r x waits e = absurd (let z : ◌≡◌ {A = ℕ} 0 1 = cc in omega arith)
  away-by s o v r x (parts d l) e =
      absurd (not-exhausted (encoded allocation (pos 0, (pos 0, joined m q.time v.1.1)) (length c.out)) m (with_time (with_gathered m (joined m q.time v.1.1)) q.time) c.out e)
  away-by s o v r x (finds d l n k) e = absurd (not-exhausted (encoded allocation (pos n, (pos 0, joined m q.time v.1.1)) (length c.out)) m (with_time (with_count m 0) q.time) c.out e)
  away-by s o v r x (adds d l n k i) e =
      absurd (not-exhausted (encoded allocation (pos n, (pos 0, joined m q.time v.1.1)) (length c.out)) m (with_time (with_count (with_entry m (joined m q.time v.1.1) n) 0) q.time) c.out e)
  away-by s o v r x (lacks d l k i) e =
      record {
        unique = joined m q.time v.1.1;
        prefers = v.0;
        completes = complete m c s o v r d l;
        free =
            record {
              new = k;
              taken = none-given (is_free q.reserved (table_of m)) (preferred v.0) (preferred-le v.0) (none_above q.reserved (table_of m)) i;
            };
      }

  away-call : (x : Result) → Called m c.request c.payload c.out x → x.answer ≡ Err Exhausted → Away m c
  away-call x faults e = absurd (let z : ◌≡◌ {A = ℕ} 0 1 = cc in omega arith)
  away-call x disowned e = absurd (let z : ◌≡◌ {A = ℕ} 0 1 = cc in omega arith)
  away-call x (refuses n h) e = absurd (let z : ◌≡◌ {A = ℕ} 0 1 = cc in omega arith)
  away-call x (acts s o v r y d) e = away-by s o v r y d e

  -- the call as it acts on a message that it reads
  pub on-message : sound_state m ≡ true → no_own c.request.reserved.own ≡ false → (v : Fields) → decoded allocation c.payload ≡ got (values_of v)
      → result_of m c ≡ performs (decide m c.request v) m c.request.time (joined m c.request.time v.1.1) c.out
  unfolding on_message
  on-message s o v r = by-message m q c.payload c.out s o ∙ ap (λ (a : Answer (Values allocation)). on_message a m q c.out) r

  turned : (g : List ℕ) (p : ℕ) → Completes m c g p → NoneFree m c g → (result_of m c).answer ≡ Err Exhausted
  unfolding performs completes
  turned g p d f =
      let v : Fields = (p, (d.first, d.part)) in
      let l = ap length d.is ∙ d.whole in
      let u = ap (λ (y : List ℕ). node_of (le y) (table_of m)) d.is ∙ f.new in
      let x : decide m q v ≡ exhausted =
      is-whole m q v d.anonymous d.expected (omega arith)
      ∙ ap (λ (o : Option ℕ). allots o (given (is_free q.reserved (table_of m)) (preferred p))) u
      ∙ ap (allots none) (given-none (is_free q.reserved (table_of m)) (preferred p) f.taken) in
      ap (λ (r : Result). r.answer) (on-message d.sound d.own v d.message ∙ ap (λ (y : Verdict). performs y m q.time (joined m q.time d.part) c.out) x)

pub turned-away : TurnedAway
turned-away =
    record {
      only_if = λ m c e. away-call m c (result_of m c) (called m c.request c.payload c.out) e;
      if = λ m c a. turned m c a.unique a.prefers a.completes a.free;
    }
