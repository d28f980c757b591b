-- Three stages, one after the other.
use mathlib.Core.Path.{◌≡◌, refl, sym, ap, ap₂, ◌∙◌, subst}
use mathlib.Core.Bool.{Bool, true, false}
use mathlib.Core.List.{List, ◌++◌}
use mathlib.Core.Logic.{◌⊎◌, inl, inr}
use mathlib.Core.Option.{Option, none, some}
use Prim.Native.Nat.{ℕ, ◌-◌, ◌^◌, ◌≤◌, ◌<◌}
use native.Mathlib.Omega.{arith}
use borrow.Author.Tests.{ltb-true, ltb-false}
use lib.Dec.{ltb}
use lib.ListN.{length, take, drop, length-drop, take-append-drop}
use lib.Seq.{length-take-le, take-add}
use Rattle.bits.specs.Little.{le}
use Rattle.bits.specs.Order.{Octets}
use Rattle.bits.specs.Part.{span}
use Rattle.bits.proofs.Octets.{octets-take}
use Rattle.bits.proofs.Splice.{length-span}
use Rattle.allocator_table.specs.Layout.{gathered_at, gathered_count, time_of, table_of, sound_state, with_time, with_count, with_gathered, with_entry}
use Rattle.allocator_table.specs.Limits.{unique_id_max, followup_timeout}
use Rattle.allocator_table.specs.Table.{entry, insert, node_of, is_givable, is_free, given}
use Rattle.allocator_table.proofs.Inserted.{found-inserted}
use Rattle.allocator_table.proofs.Lasting.{sound-timed, sound-counted, sound-gathered}
use Rattle.allocator_table.proofs.Room.{known-givable, free-givable}
use Rattle.allocator_table.proofs.Search.{given-takes}
use Rattle.allocator_table.proofs.Soundness.{long-enough, table-sound}
use Rattle.allocator_table.proofs.Views.{table-timed, time-timed, count-timed, gathered-timed, table_counted, table-gathered, count-gathered, bytes-gathered}
use Rattle.allocator.specs.Allocate.{Verdict, gathers, knows, gives, allots, completes, Result, performs}
use Rattle.allocator.specs.Calls.{Call, result_of, Reply}
use Rattle.allocator.specs.Service.{Stage, Service}
use Rattle.allocator.specs.Stage.{stage_of, expected_at, accepts, kept_at, joined, preferred}
use Rattle.allocator.proofs.Again.{on-message, none-given}
use Rattle.allocator.proofs.Called.{Expected}
use Rattle.allocator.proofs.Decisions.{givable-small, is-part, is-whole}
use Rattle.allocator.proofs.Lasts.{none_above, enters-table}
use Rattle.allocator.proofs.Reading.{replied, replied-state}
use Rattle.allocator.proofs.Stages.{kept-all, kept-none, preferred-le}

-- a state in which the bytes g of a unique ID are gathered, at the time t
record Gathered (m g : List ℕ) (t : ℕ) (m' : List ℕ) : Type 0 where
  sound : sound_state m' ≡ true
  count : gathered_count m' ≡ length g
  bytes : span m' gathered_at (length g) ≡ g
  time : time_of m' ≡ t
  table : table_of m' ≡ table_of m

has-gathered : (m g : List ℕ) (t : ℕ) → sound_state m ≡ true → length g < unique_id_max → t < 2 ^ 64 → Gathered m g t (with_time (with_gathered m g) t)
has-gathered m g t s h w =
    let l = long-enough m s in
    let f : length g ≤ unique_id_max = omega arith in
    let k = sound-gathered m s g h in
    let j = long-enough (with_gathered m g) k in
    record {
      sound = sound-timed (with_gathered m g) k t;
      count = count-timed (with_gathered m g) t j ∙ count-gathered m g l f;
      bytes = gathered-timed (with_gathered m g) t j (length g) ∙ bytes-gathered m g l f;
      time = time-timed (with_gathered m g) t j w;
      table = table-timed (with_gathered m g) t j ∙ table-gathered m g l f;
    }

-- ── one stage ──

module _ (m : List ℕ) (c : Call) (first : ℕ) (part : List ℕ) (k : ℕ) (s : sound_state m ≡ true) (d : Stage c first part k) where
  abbrev t : ℕ
  t = c.request.time

  module _ (g : List ℕ) (is : joined m c.request.time part ≡ g) (a : accepts first (length part) (kept_at m c.request.time) ≡ true) (bytes : Octets g) (l : length g ≡ k) where
    -- a part is confirmed
    module _ (few : k < unique_id_max) where
      part-result : result_of m c ≡ performs gathers m c.request.time g c.out
      part-result =
          on-message m c s d.own (d.prefers, (first, part)) d.message
          ∙ ap₂ (λ (x : Verdict) (y : List ℕ). performs x m t y c.out) (is-part m c.request (d.prefers, (first, part)) d.anonymous a (omega (arith, ap length is))) is

      part-reply : Reply (result_of m c) 0 g
      unfolding performs
      part-reply = subst (λ (r : Result). Reply r 0 g) (sym part-result) (replied 0 g (omega arith) bytes (omega arith) m (with_time (with_gathered m g) t) c.out (omega (arith, d.room)))

      part-state : Gathered m g c.request.time (result_of m c).state
      unfolding performs
      part-state =
          subst (Gathered m g t) (sym (ap (λ (r : Result). r.state) part-result ∙ replied-state 0 g (omega arith) bytes (omega arith) m (with_time (with_gathered m g) t) c.out (omega (arith, d.room))))
          (has-gathered m g t s (omega arith) d.time)

    -- a whole unique ID gets a node ID
    module _ (whole : k ≡ unique_id_max) where
      whole-result : result_of m c ≡ performs (completes m c.request g d.prefers) m c.request.time g c.out
      whole-result =
          on-message m c s d.own (d.prefers, (first, part)) d.message
          ∙ ap (λ (x : Verdict). performs x m t (joined m t part) c.out) (is-whole m c.request (d.prefers, (first, part)) d.anonymous a (omega (arith, ap length is)))
          ∙ ap (λ (y : List ℕ). performs (completes m c.request y d.prefers) m t y c.out) is

      -- the node ID, and its entry afterwards
      record Granted : Type 0 where
        node : ℕ
        givable : is_givable node ≡ true
        reply : Reply (result_of m c) node g
        entered : node_of (le g) (table_of (result_of m c).state) ≡ some node

      small : (n : ℕ) → is_givable n ≡ true → n < 128
      small n h = omega (arith, givable-small n h)

      known : (n : ℕ) → node_of (le g) (table_of m) ≡ some n → Granted
      unfolding performs completes
      known n f =
          let h = known-givable (table_of m) (le g) n (table-sound m s) f in
          let m' = with_time (with_count m 0) t in
          let r : result_of m c ≡ performs (knows n) m t g c.out =
          whole-result ∙ ap (λ (o : Option ℕ). performs (allots o (given (is_free c.request.reserved (table_of m)) (preferred d.prefers))) m t g c.out) f in
          let j = sound-counted m s 0 (omega arith) in
          let w = ap (λ (x : Result). table_of x.state) r
          ∙ ap table_of (replied-state n g (small n h) bytes (omega arith) m m' c.out (omega (arith, d.room)))
          ∙ table-timed (with_count m 0) t (long-enough (with_count m 0) j) ∙ table_counted m 0 (long-enough m s) in
          record {
            node = n;
            givable = h;
            reply = subst (λ (x : Result). Reply x n g) (sym r) (replied n g (small n h) bytes (omega arith) m m' c.out (omega (arith, d.room)));
            entered = ap (node_of (le g)) w ∙ f;
          }

      fresh : (n : ℕ) → node_of (le g) (table_of m) ≡ none → given (is_free c.request.reserved (table_of m)) (preferred d.prefers) ≡ some n → Granted
      unfolding performs completes
      fresh n f o =
          let h = free-givable c.request.reserved (table_of m) n (given-takes (is_free c.request.reserved (table_of m)) (preferred d.prefers) n o) in
          let m' = with_time (with_count (with_entry m g n) 0) t in
          let r : result_of m c ≡ performs (gives n) m t g c.out = whole-result ∙ ap₂ (λ (x y : Option ℕ). performs (allots x y) m t g c.out) f o in
          let e : Expected m c.request (d.prefers, (first, part)) = record { anonymous = d.anonymous; accepted = a } in
          let b = enters-table m c s d.own (d.prefers, (first, part)) d.message e (ap length is ∙ l ∙ whole) n (ap (λ (y : List ℕ). node_of (le y) (table_of m)) is ∙ f) o in
          let w = ap (λ (x : Result). table_of x.state) r ∙ ap table_of (replied-state n g (small n h) bytes (omega arith) m m' c.out (omega (arith, d.room)))
          ∙ ap (λ (y : List ℕ). table_of (with_time (with_count (with_entry m y n) 0) t)) (sym is) ∙ b in
          record {
            node = n;
            givable = h;
            reply = subst (λ (x : Result). Reply x n g) (sym r) (replied n g (small n h) bytes (omega arith) m m' c.out (omega (arith, d.room)));
            entered = ap (node_of (le g)) w ∙ ap (λ (y : List ℕ). node_of (le g) (insert (entry (le y) n) (table_of m))) is ∙ found-inserted (entry (le g) n) (table_of m) f;
          }

      granted : (((n : ℕ) → node_of (le g) (table_of m) ≡ some n → ⊥) → ((i : ℕ) → is_free c.request.reserved (table_of m) i ≡ false) → ⊥) → Granted
      granted possible = go (node_of (le g) (table_of m)) refl (given (is_free c.request.reserved (table_of m)) (preferred d.prefers)) refl where
        go : (x : Option ℕ) → node_of (le g) (table_of m) ≡ x → (y : Option ℕ) → given (is_free c.request.reserved (table_of m)) (preferred d.prefers) ≡ y → Granted
        go (some n) e y f = known n e
        go none e (some n) f = fresh n e f
        go none e none f =
            absurd (possible (λ n w. let z : ◌≡◌ {A = ℕ} 0 1 = cc in omega arith)
            (none-given (is_free c.request.reserved (table_of m)) (preferred d.prefers) (preferred-le d.prefers) (none_above c.request.reserved (table_of m)) f))

-- ── what is gathered is there at the next stage ──

joins : (m' : List ℕ) (t k : ℕ) (part : List ℕ) (g h : List ℕ) → kept_at m' t ≡ k → span m' gathered_at k ≡ g → g ++ part ≡ h → joined m' t part ≡ h
unfolding joined
joins m' t k part g h e f q = ap (λ (x : ℕ). span m' gathered_at x ++ part) e ∙ ap (λ (x : List ℕ). x ++ part) f ∙ q

accepted : (first n k : ℕ) (part : List ℕ) (m : List ℕ) (t : ℕ) → length part ≡ n → kept_at m t ≡ k → accepts first n k ≡ true → accepts first (length part) (kept_at m t) ≡ true
accepted first n k part m t e f a = ap₂ (λ (x y : ℕ). accepts first x y) e f ∙ a

first-accepted : accepts 1 6 0 ≡ true
unfolding accepts stage_of expected_at
first-accepted = refl

second-accepted : accepts 0 6 6 ≡ true
unfolding accepts stage_of expected_at
second-accepted = refl

third-accepted : accepts 0 4 12 ≡ true
unfolding accepts stage_of expected_at
third-accepted = refl

begins-empty : (m : List ℕ) (t : ℕ) → (gathered_count m ≡ 0) ⊎ (followup_timeout < t - time_of m) → kept_at m t ≡ 0
begins-empty m t (inr h) = sym (kept-none m t h)
begins-empty m t (inl z) = go (ltb followup_timeout (t - time_of m)) refl where
  go : (b : Bool) → ltb followup_timeout (t - time_of m) ≡ b → kept_at m t ≡ 0
  go true w = sym (kept-none m t (ltb-true followup_timeout (t - time_of m) w))
  go false w = sym (kept-all m t (ltb-false followup_timeout (t - time_of m) w)) ∙ z

goes_on : (m g : List ℕ) (t₁ : ℕ) (m' : List ℕ) → Gathered m g t₁ m' → (t₂ : ℕ) → t₂ - t₁ ≤ followup_timeout → kept_at m' t₂ ≡ length g
goes_on m g t₁ m' s t₂ h = sym (kept-all m' t₂ (omega (arith, s.time))) ∙ s.count

pub service : Service
service m u c₁ c₂ c₃ d =
    let l = d.whole in
    let six : length (take 6 u) ≡ 6 = length-take-le 6 u (omega arith) in
    let mid : length (span u 6 6) ≡ 6 = length-span u 6 6 (omega arith) in
    let dozen : length (take 12 u) ≡ 12 = length-take-le 12 u (omega arith) in
    let four : length (drop 12 u) ≡ 4 = length-drop 12 u ∙ omega arith in
    let k₁ = begins-empty m c₁.request.time d.begins in
    let j₁ = joins m c₁.request.time 0 (take 6 u) (take 0 u) (take 6 u) k₁ refl refl in
    let a₁ = accepted 1 6 0 (take 6 u) m c₁.request.time six k₁ first-accepted in
    let r₁ = part-reply m c₁ 1 (take 6 u) 6 d.sound d.first (take 6 u) j₁ a₁ (octets-take 6 u d.octets) six (omega arith) in
    let s₁ = part-state m c₁ 1 (take 6 u) 6 d.sound d.first (take 6 u) j₁ a₁ (octets-take 6 u d.octets) six (omega arith) in
    let m₁ = (result_of m c₁).state in
    let k₂ = goes_on m (take 6 u) c₁.request.time m₁ s₁ c₂.request.time d.then ∙ six in
    let j₂ = joins m₁ c₂.request.time 6 (span u 6 6) (take 6 u) (take 12 u) k₂ (ap (span m₁ gathered_at) (sym six) ∙ s₁.bytes) (sym (take-add 6 6 u)) in
    let a₂ = accepted 0 6 6 (span u 6 6) m₁ c₂.request.time mid k₂ second-accepted in
    let r₂ = part-reply m₁ c₂ 0 (span u 6 6) 12 s₁.sound d.second (take 12 u) j₂ a₂ (octets-take 12 u d.octets) dozen (omega arith) in
    let s₂ = part-state m₁ c₂ 0 (span u 6 6) 12 s₁.sound d.second (take 12 u) j₂ a₂ (octets-take 12 u d.octets) dozen (omega arith) in
    let m₂ = (result_of m₁ c₂).state in
    let e = s₂.table ∙ s₁.table in
    let k₃ = goes_on m₁ (take 12 u) c₂.request.time m₂ s₂ c₃.request.time d.last ∙ dozen in
    let j₃ = joins m₂ c₃.request.time 12 (drop 12 u) (take 12 u) u k₃ (ap (span m₂ gathered_at) (sym dozen) ∙ s₂.bytes) (take-append-drop 12 u) in
    let a₃ = accepted 0 4 12 (drop 12 u) m₂ c₃.request.time four k₃ third-accepted in
    let g = granted m₂ c₃ 0 (drop 12 u) 16 s₂.sound d.third u j₃ a₃ d.octets l refl
    (λ no-entry no-id. d.possible (λ n w. no-entry n (ap (node_of (le u)) e ∙ w)) (λ i. ap (λ x. is_free c₃.request.reserved x i) (sym e) ∙ no-id i)) in
    record {
      node = g.node;
      givable = g.givable;
      first = r₁;
      second = r₂;
      third = g.reply;
      entered = g.entered;
    }
