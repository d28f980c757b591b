-- An allocatee and an allocator that hear each other. The allocator's half is its own theorem, `serving`.
use mathlib.Core.Path.{◌≡◌, refl, sym, ap, ap₂, ◌∙◌, subst}
use mathlib.Core.Bool.{true, false}
use mathlib.Core.List.{List, [], ◌∷◌}
use Prim.Native.Nat.{ℕ, zero, suc, ◌+◌, ◌-◌, ◌≤◌, ◌<◌}
use native.Mathlib.Nat.{min-le_left}
use native.Mathlib.Omega.{arith}
use mathlib.Mathlib.Data.Bool.Basic.{and_elim_left}
use borrow.Author.Tests.{lt-ltb, le-ltb, le-leb, ltb-true, eq-eqb, ne_eqb}
use lib.Dec.{lit≤}
use lib.IntN.{pos}
use lib.ListN.{length, take, drop, length-take, length-drop}
use lib.Seq.{take_at, take_all, length-take-le}
use Rattle.bits.specs.Order.{Octets, bytes_for}
use Rattle.bits.specs.Part.{span}
use Rattle.bits.proofs.Bytes.{length-bytes}
use Rattle.bits.proofs.Octets.{octets-take, octets-drop}
use Rattle.shape.specs.Answer.{got, refuse_if}
use Rattle.shape.specs.Shape.{Values, encode, fits, clipped, within, message, encoded, decoded}
use Rattle.shape.proofs.RoundTrip.{round-there}
use Rattle.shape.proofs.There.{kept}
use Rattle.protocol_dynamic_node_id.specs.Allocation.{allocation}
use Rattle.protocol_dynamic_node_id.proofs.AllocationFacts.{size, fit}
use Rattle.allocator_table.specs.Table as entries
use Rattle.allocator.specs.Answer as replied
use Rattle.allocator.specs.Calls as allocator
use Rattle.allocator.specs.Service.{Stage, Served}
use Rattle.allocator.proofs.Serving.{service}
use Rattle.allocatee.specs.Answer.{length_in}
use Rattle.allocatee.specs.Calls.{Result, sent_as, sent, follows_up, requests, polled, begins, is_own, skips, on_message, heard}
use Rattle.allocatee.specs.Layout.{unique_of, preferred_of, node_of, pending_of, follow_up_due, request_due, with_node, with_pending, with_timer}
use Rattle.allocatee.specs.Limits.{unique_id_max, stage_max, request_max, node_max}
use Rattle.allocatee.specs.Meeting.{Both, Turn, sends, asks, replies, after, Fits, Premises, SameId, Meeting}
use Rattle.allocatee.specs.declared.Heard.{Heard}
use Rattle.allocatee.proofs.Fields.{Ready, ready-sound, ready-timer, ready-pending, node-node}
use Rattle.allocatee.proofs.Hearing.{heard-read}
use Rattle.allocatee.proofs.Polling.{polled-follows-up, polled-requests}
use Rattle.allocatee.proofs.Sending.{sent-room}
use Rattle.allocatee.proofs.Views.{long-enough, preferred-small}

-- ── what is sent is read as it was meant ──

pub record Said (r : Result) (m' : List ℕ) (v : Values allocation) : Type 0 where
  pub bytes : r.bytes ≡ m'
  pub read : decoded allocation (take (length_in r.answer) r.out) ≡ got v

module _ (p first : ℕ) (part : List ℕ) (hp : p < 128) (hf : first < 2) (few : length part ≤ stage_max) (o : Octets part) where
  abbrev v : Values allocation
  v = (pos p, (pos first, part))

  unclipped : clipped allocation v ≡ v
  unfolding within
  unclipped = kept allocation (lit≤ tt) v (rw (lt-ltb p 128 hp, lt-ltb first 2 hf))

  fits-it : fits allocation v ≡ true
  fits-it = sym (fit (pos p) (pos first) part o) ∙ le-leb (length part) unique_id_max (omega arith)

  length-message : length (message allocation v) ≡ 1 + length part
  length-message = let e = size (pos p) (pos first) part in length-bytes (bytes_for (length (encode allocation v))) _ ∙ omega arith

  is-encoded : (n : ℕ) → request_max ≤ n → encoded allocation v n ≡ got (message allocation v)
  unfolding encoded refuse_if
  is-encoded n room = rw (fits-it, le-ltb n (length (message allocation v)) (omega (arith, length-message)))

  pub read_again : decoded allocation (message allocation v) ≡ got v
  read_again = round-there allocation (lit≤ tt) v request_max (message allocation v) (is-encoded request_max (omega arith)) ∙ ap got unclipped

  module _ (m m' : List ℕ) (t : ℕ) (out : List ℕ) (room : request_max ≤ length out) (is : preferred_of m ≡ p) where
    outcome : sent first part m m' t out ≡ sent_as (got (message allocation v)) m m' t out
    outcome =
        sym (sent-room first part m m' t out room)
        ∙ ap (λ (x : ℕ). sent_as (encoded allocation (pos x, (pos first, part)) (length out)) m m' t out) is ∙ ap (λ x. sent_as x m m' t out) (is-encoded (length out) room)

    pub said : (r : Result) → r ≡ sent first part m m' t out → Said r m' v
    said r e =
        let f = e ∙ outcome in
        record {
          bytes = ap (λ (x : Result). x.bytes) f;
          read =
              ap (λ (x : Result). decoded allocation (take (length_in x.answer) x.out)) f
              ∙ ap (decoded allocation) (take_at (message allocation v) (drop (length (message allocation v)) out) (length (message allocation v)) refl)
              ∙ read_again;
        }

-- ── beginnings of the own unique ID ──

begins-take : (k : ℕ) (u : List ℕ) → begins (take k u) u ≡ true
unfolding begins
begins-take zero u = refl
begins-take (suc k) [] = refl
begins-take (suc k) (x ∷ u) = rw (eq-eqb x x refl) (begins-take k u)

begins-self : (u : List ℕ) → begins u u ≡ true
unfolding begins
begins-self [] = refl
begins-self (x ∷ u) = rw (eq-eqb x x refl) (begins-self u)

-- nothing is pending, so no follow-up is due
pub none : (m : List ℕ) (t : ℕ) → pending_of m ≡ 0 → follow_up_due m t ≡ false
unfolding follow_up_due
none m t e = rw e

span-few : (u : List ℕ) (k : ℕ) → length (span u k stage_max) ≤ stage_max
span-few u k = omega (arith, length-take stage_max (drop k u), min-le_left stage_max (length (drop k u)))

-- ── one turn of the allocatee ──

module _ (u : List ℕ) (l : length u ≡ unique_id_max) (o : Octets u) (p : ℕ) (hp : p ≤ node_max) where
  pub first_said : (m : List ℕ) (t x : ℕ) (out : List ℕ) → Ready m u p 0 → request_max ≤ length out → request_due m t ≡ true
      → Said (polled m t x out) (with_timer m t x) (pos p, (pos 1, take 6 u))
  unfolding requests
  first_said m t x out r room due =
      let s = ready-sound m u p 0 r hp (omega arith) in
      let d : follow_up_due m t ≡ false = none m t r.skips in
      let e = sym (polled-requests m t x out s 0 (sym r.node) refl d due) in
      let f : polled m t x out ≡ sent 1 (take 6 u) m (with_timer m t x) t out = e ∙ ap (λ (y : List ℕ). sent 1 (span y 0 stage_max) m (with_timer m t x) t out) r.unique in
      said p 1 (take 6 u) (omega arith) (omega arith) (omega (arith, length-take-le 6 u (omega arith))) (octets-take 6 u o) m (with_timer m t x) t out room r.preferred (polled m t x out) f

  pub next-said : (m : List ℕ) (k t x : ℕ) (out : List ℕ) → k < unique_id_max → Ready m u p (suc k) → request_max ≤ length out → follow_up_due m t ≡ true
      → Said (polled m t x out) (with_pending m 0) (pos p, (pos 0, span u k stage_max))
  unfolding follows_up
  next-said m k t x out h r room due =
      let s = ready-sound m u p (suc k) r hp (omega arith) in
      let e = sym (polled-follows-up m t x out s 0 (sym r.node) refl due) in
      let z : suc k - 1 ≡ k = omega arith in
      let f : polled m t x out ≡ sent 0 (span u k stage_max) m (with_pending m 0) t out =
      e ∙ ap₂ (λ (y : List ℕ) (i : ℕ). sent 0 (span y (i - 1) stage_max) m (with_pending m 0) t out) r.unique r.skips ∙ ap (λ (i : ℕ). sent 0 (span u i stage_max) m (with_pending m 0) t out) z in
      said p 0 (span u k stage_max) (omega arith) (omega arith) (span-few u k) (octets-take stage_max (drop k u) (octets-drop k u o)) m (with_pending m 0) t out room r.preferred (polled m t x out) f

  -- a reply with a part of the unique ID, and one with all of it
  module _ (m : List ℕ) (q : Heard) (y : List ℕ) (n : ℕ) (hn : n ≤ unique_id_max) (r : Ready m u p n) (named : q.source ≡ 0 → ⊥) where
    own : (k : ℕ) → is_own m q.source (take k u) ≡ true
    unfolding is_own
    own k = rw (ne_eqb q.source 0 named, r.unique) (begins-take k u)

    pub hears-part : (k : ℕ) → k < unique_id_max → decoded allocation y ≡ got (pos 0, (pos 0, take k u)) → Ready (heard m q y).bytes u p (suc k)
    unfolding on_message skips
    hears-part k h e =
        let s = ready-sound m u p n r hp hn in
        let j : length (take k u) ≡ k = length-take-le k u (omega arith) in
        let f : (heard m q y).bytes ≡ with_pending (with_timer m q.time q.random) (suc k) =
        sym (ap (λ x. x.bytes) (heard-read m q y s 0 (sym r.node) refl (pos 0, (pos 0, take k u)) e))
        ∙ rw (own k, j, ne_eqb k unique_id_max (λ z. omega arith), lt-ltb k unique_id_max h) in
        subst (λ (x : List ℕ). Ready x u p (suc k)) (sym f) (ready-pending (with_timer m q.time q.random) u p n (ready-timer m u p n r q.time q.random) (suc k))

    own-all : is_own m q.source u ≡ true
    unfolding is_own
    own-all = rw (ne_eqb q.source 0 named, r.unique) (begins-self u)

    pub hears-all : (i : ℕ) → 0 < i → decoded allocation y ≡ got (pos i, (pos 0, u)) → node_of (heard m q y).bytes ≡ i
    unfolding on_message
    hears-all i h e =
        let s = ready-sound m u p n r hp hn in
        let f : (heard m q y).bytes ≡ with_node m i =
        sym (ap (λ x. x.bytes) (heard-read m q y s 0 (sym r.node) refl (pos i, (pos 0, u)) e)) ∙ rw (own-all, eq-eqb (length u) unique_id_max l, ne_eqb i 0 (λ z. omega arith)) in
        ap node_of f ∙ node-node m i r.long

-- ── both ──

-- a call of the allocator
abbrev call : Turn → List ℕ → allocator.Call
call k y = record { request = k.request; payload = y; out = k.reply }

stage : (k : Turn) (f : Fits k) (y : List ℕ) (p first : ℕ) (part : List ℕ) → decoded allocation y ≡ got (pos p, (pos first, part)) → (n : ℕ) → n ≤ unique_id_max → Stage (call k y) first part n
stage k f y p first part e n h =
    record { own = f.own; anonymous = f.anonymous; time = f.time; prefers = p; message = e; room = omega (arith, f.reply) }

-- what the allocatee gets is the reply
reply : (b : Both) (k : Turn) (n : ℕ) (g : List ℕ) → allocator.Reply (allocator.result_of b.allocator (asks b k)) n g → decoded allocation (replies b k) ≡ got (pos n, (pos 0, g))
reply b k n g r =
    ap (λ x. decoded allocation (take (replied.length_in x) (allocator.result_of b.allocator (asks b k)).out)) r.answer ∙ r.message

positive : (n : ℕ) → entries.is_givable n ≡ true → 0 < n
positive n e = ltb-true 0 n (and_elim_left _ _ e)

module _ (b : Both) (k₁ k₂ k₃ : Turn) (g : Premises b k₁ k₂ k₃) where
  abbrev u : List ℕ
  u = unique_of b.allocatee

  abbrev p : ℕ
  p = preferred_of b.allocatee

  whole : length u ≡ unique_id_max
  unfolding unique_of
  whole = length-take-le unique_id_max b.allocatee (omega (arith, long-enough b.allocatee g.allocatee))

  small : p ≤ node_max
  small = preferred-small b.allocatee g.allocatee

  ready : Ready b.allocatee u p 0
  ready = record { long = long-enough b.allocatee g.allocatee; unique = refl; preferred = refl; node = g.no_node; skips = g.idle }

  abbrev b₁ : Both
  b₁ = after b k₁

  abbrev b₂ : Both
  b₂ = after b₁ k₂

  -- one turn: from what was said, and the reply, to the state after it
  turned : (a : Both) (k : Turn) (f : Fits k) (m' : List ℕ) (v : Values allocation) (i n : ℕ) → Said (sends a k) m' v → i ≤ unique_id_max → Ready m' u p i → n < unique_id_max
      → allocator.Reply (allocator.result_of a.allocator (asks a k)) 0 (take n u) → Ready (after a k).allocatee u p (suc n)
  unfolding after
  turned a k f m' v i n s hi r h y =
      let r' : Ready (sends a k).bytes u p i = subst (λ (x : List ℕ). Ready x u p i) (sym s.bytes) r in
      hears-part u whole g.octets p small (sends a k).bytes k.heard (replies a k) i hi r' f.named n h (reply a k 0 (take n u) y)

  said₁ : Said (sends b k₁) (with_timer b.allocatee k₁.time k₁.random) (pos p, (pos 1, take 6 u))
  said₁ = first_said u whole g.octets p small b.allocatee k₁.time k₁.random k₁.out ready g.first.room g.request-due

  ready-said : Ready (with_timer b.allocatee k₁.time k₁.random) u p 0
  ready-said = ready-timer b.allocatee u p 0 ready k₁.time k₁.random

  -- the second and the third turn need the replies before them
  said₂ : Ready b₁.allocatee u p 7 → Said (sends b₁ k₂) (with_pending b₁.allocatee 0) (pos p, (pos 0, span u 6 6))
  said₂ r = next-said u whole g.octets p small b₁.allocatee 6 k₂.time k₂.random k₂.out (omega arith) r g.second.room g.second-due

  said₃ : Ready b₂.allocatee u p 13 → Said (sends b₂ k₃) (with_pending b₂.allocatee 0) (pos p, (pos 0, drop 12 u))
  said₃ r =
      let e : span u 12 6 ≡ drop 12 u = take_all 6 (drop 12 u) (omega (arith, length-drop 12 u, whole)) in
      subst (λ (x : List ℕ). Said (sends b₂ k₃) (with_pending b₂.allocatee 0) (pos p, (pos 0, x))) e
      (next-said u whole g.octets p small b₂.allocatee 12 k₃.time k₃.random k₃.out (omega arith) r g.third.room g.third-due)

  -- the allocator's half, whatever the payloads are that say the three stages
  dialog : (y₁ y₂ y₃ : List ℕ) → decoded allocation y₁ ≡ got (pos p, (pos 1, take 6 u)) → decoded allocation y₂ ≡ got (pos p, (pos 0, span u 6 6))
      → decoded allocation y₃ ≡ got (pos p, (pos 0, drop 12 u)) → Served b.allocator u (call k₁ y₁) (call k₂ y₂) (call k₃ y₃)
  dialog y₁ y₂ y₃ e₁ e₂ e₃ =
      service b.allocator u (call k₁ y₁) (call k₂ y₂) (call k₃ y₃)
      (record {
        sound = g.allocator;
        octets = g.octets;
        whole = whole;
        first = stage k₁ g.first y₁ p 1 (take 6 u) e₁ 6 (omega arith);
        second = stage k₂ g.second y₂ p 0 (span u 6 6) e₂ 12 (omega arith);
        third = stage k₃ g.third y₃ p 0 (drop 12 u) e₃ 16 (omega arith);
        begins = g.begins;
        then = g.then;
        last = g.last;
        possible = g.possible;
      })

  -- payloads of the stages that have not come yet
  four : length (drop 12 u) ≡ 4
  four = length-drop 12 u ∙ omega (arith, whole)

  later₂ : decoded allocation (message allocation (pos p, (pos 0, span u 6 6))) ≡ got (pos p, (pos 0, span u 6 6))
  later₂ = read_again p 0 (span u 6 6) (omega (arith, small)) (omega arith) (span-few u 6) (octets-take 6 (drop 6 u) (octets-drop 6 u g.octets))

  later₃ : decoded allocation (message allocation (pos p, (pos 0, drop 12 u))) ≡ got (pos p, (pos 0, drop 12 u))
  later₃ = read_again p 0 (drop 12 u) (omega (arith, small)) (omega arith) (omega (arith, four)) (octets-drop 12 u g.octets)

  ready₁ : Ready b₁.allocatee u p 7
  ready₁ = turned b k₁ g.first (with_timer b.allocatee k₁.time k₁.random) (pos p, (pos 1, take 6 u)) 0 6 said₁ (omega arith) ready-said (omega arith) (dialog _ _ _ said₁.read later₂ later₃).first

  ready₂ : Ready b₂.allocatee u p 13
  unfolding after
  ready₂ =
      let s = said₂ ready₁ in
      turned b₁ k₂ g.second (with_pending b₁.allocatee 0) (pos p, (pos 0, span u 6 6)) 0 12 s (omega arith) (ready-pending b₁.allocatee u p 7 ready₁ 0) (omega arith)
      (dialog _ _ _ said₁.read s.read later₃).second

  served : Served b.allocator u (asks b k₁) (asks b₁ k₂) (asks b₂ k₃)
  served = dialog _ _ _ said₁.read (said₂ ready₁).read (said₃ ready₂).read

  met : SameId b (after b₂ k₃)
  unfolding after
  met =
      let s = said₃ ready₂ in
      let r : Ready (sends b₂ k₃).bytes u p 0 = subst (λ (x : List ℕ). Ready x u p 0) (sym s.bytes) (ready-pending b₂.allocatee u p 13 ready₂ 0) in
      record {
        node = served.node;
        givable = served.givable;
        taken =
            hears-all u whole g.octets p small (sends b₂ k₃).bytes k₃.heard (replies b₂ k₃) 0 (omega arith) r g.third.named served.node (positive served.node served.givable)
            (reply b₂ k₃ served.node u served.third);
        entered = served.entered;
      }

pub meeting : Meeting
meeting b k₁ k₂ k₃ g = met b k₁ k₂ k₃ g
