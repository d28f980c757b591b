-- What one call does to the node ID, to what is pending and to the timer.
use mathlib.Core.Path.{◌≡◌, refl, sym, ap, ap₂, ◌∙◌}
use mathlib.Core.Bool.{Bool, true, false, not}
use mathlib.Core.List.{List, [], ◌∷◌}
use mathlib.Core.Logic.{◌⊎◌, inl, inr}
use mathlib.Mathlib.Data.Bool.Basic.{and_elim_left, and_elim_right}
use Prim.Native.Nat.{ℕ, suc, ◌+◌, ◌-◌, ◌%◌, ◌/◌, ◌^◌, ◌≤◌, ◌<◌}
use native.Mathlib.Omega.{arith}
use borrow.Author.Tests.{le-leb, ltb-true, eqb-true, eqb-false, eq-eqb, ne_eqb, not-true}
use lib.Dec.{eqb, ltb}
use lib.IntN.{pos, nat_abs}
use lib.ListN.{length}
use lib.Seq.{length-take-le}
use Rattle.bits.specs.Little.{le, le_bytes}
use Rattle.bits.specs.Part.{span, splice}
use Rattle.bits.proofs.Little.{length-le_bytes, le-le_bytes}
use Rattle.bits.proofs.Splice.{length-splice, span_same, span-before}
use Rattle.shape.specs.Answer.{Answer, refused, got}
use Rattle.shape.specs.Shape.{Values, decoded, encoded}
use Rattle.protocol_dynamic_node_id.specs.Allocation.{allocation}
use Rattle.allocatee.specs.Calls.{begins, is_own, skips, on_message, on_read, heard, sent, follows_up, requests, polled}
use Rattle.allocatee.specs.Laws.{Grants, TakesItsOwn, Confirms, FollowsItsOwn, AsksAgain}
use Rattle.allocatee.specs.Layout.{since_at, period_at, delay_at, size, unique_of, preferred_of, node_of, pending_of, since_of, period_of, follow_up_due, request_due, sound_state, with_node, with_pending, with_timer}
use Rattle.allocatee.specs.Limits.{unique_id_max, period_min, spread, request_max}
use Rattle.allocatee.specs.declared.Heard.{Heard}
use Rattle.allocatee.proofs.Fields.{Ready, ready-sound, ready-timer, node-node, node-timer, node-pending, pending-pending, pending-timer}
use Rattle.allocatee.proofs.Meeting.{none, first_said}
use Rattle.allocatee.proofs.Polling.{polled-requests}
use Rattle.allocatee.proofs.Views.{long-enough, preferred-small, length-timer}

-- ── a message ──

begins-whole : (u y : List ℕ) → begins u y ≡ true → length u ≡ length y → u ≡ y
unfolding begins
begins-whole [] [] b l = refl
begins-whole [] (y ∷ ys) b l = absurd (omega arith)
begins-whole (x ∷ xs) [] b l = absurd (omega arith)
begins-whole (x ∷ xs) (y ∷ ys) b l =
    ap₂ (λ h t. h ∷ t) (eqb-true x y (and_elim_left _ _ b)) (begins-whole xs ys (and_elim_right (eqb x y) _ b) (omega arith))

unique-length : (m : List ℕ) → size ≤ length m → length (unique_of m) ≡ unique_id_max
unfolding unique_of
unique-length m h = length-take-le unique_id_max m (omega arith)

module _ (m : List ℕ) (q : Heard) (s : sound_state m ≡ true) where
  unique-long : length (unique_of m) ≡ unique_id_max
  unique-long = unique-length m (long-enough m s)

  -- what an own message is
  module _ (u : List ℕ) (o : is_own m q.source u ≡ true) where
    own-named : q.source ≡ 0 → ⊥
    unfolding is_own
    own-named = eqb-false q.source 0 (not-true (eqb q.source 0) (and_elim_left _ _ o))

    own-begins : begins u (unique_of m) ≡ true
    unfolding is_own
    own-begins = and_elim_right (not (eqb q.source 0)) _ o

  -- the cases of a message
  data On (n : ℕ) (u : List ℕ) : Type 0 where
    takes : is_own m q.source u ≡ true → length u ≡ unique_id_max → (n ≡ 0 → ⊥) → (on_message m q n u).bytes ≡ with_node m n → On n u
    skips_over : is_own m q.source u ≡ true → length u < unique_id_max → (on_message m q n u).bytes ≡ with_pending (with_timer m q.time q.random) (suc (length u)) → On n u
    drops : (on_message m q n u).bytes ≡ with_pending (with_timer m q.time q.random) 0 → On n u

  on : (n : ℕ) (u : List ℕ) → On n u
  unfolding on_message skips
  on n u = go (is_own m q.source u) refl (eqb (length u) unique_id_max) refl (eqb n 0) refl (ltb (length u) unique_id_max) refl where
    go : (a : Bool) → is_own m q.source u ≡ a → (b : Bool) → eqb (length u) unique_id_max ≡ b → (c : Bool) → eqb n 0 ≡ c → (d : Bool) → ltb (length u) unique_id_max ≡ d → On n u
    go false ea b eb c ec d ed = drops (rw ea)
    go true ea true eb false ec d ed = takes ea (eqb-true (length u) unique_id_max eb) (eqb-false n 0 ec) (rw (ea, eb, ec))
    go true ea true eb true ec true ed = skips_over ea (ltb-true (length u) unique_id_max ed) (rw (ea, eb, ec, ed))
    go true ea true eb true ec false ed = drops (rw (ea, eb, ec, ed))
    go true ea false eb c ec true ed = skips_over ea (ltb-true (length u) unique_id_max ed) (rw (ea, eb, ed))
    go true ea false eb c ec false ed = drops (rw (ea, eb, ed))

  abbrev timed : List ℕ
  timed = with_timer m q.time q.random

  node-waits : (k : ℕ) → node_of (with_pending timed k) ≡ node_of m
  node-waits k = node-pending timed k ∙ node-timer m q.time q.random (long-enough m s)

  pending-waits : (k : ℕ) → pending_of (with_pending timed k) ≡ k
  pending-waits k = pending-pending timed k (omega (arith, length-timer m q.time q.random (long-enough m s), long-enough m s))

  -- a call that got a message, on a state without an ID
  module _ (p : List ℕ) (z : node_of m ≡ 0) where
    by_read : heard m q p ≡ on_read (decoded allocation p) m q
    unfolding heard
    by_read = rw (s, eq-eqb (node_of m) 0 z)

    granted : (x : Answer (Values allocation)) → decoded allocation p ≡ x → (node_of (on_read x m q).bytes ≡ 0) ⊎ Grants m q p (node_of (on_read x m q).bytes)
    granted (refused k) e = inl z
    granted (got v) e = by (on (nat_abs v.0) v.1.1) where
      by : On (nat_abs v.0) v.1.1 → (node_of (on_message m q (nat_abs v.0) v.1.1).bytes ≡ 0) ⊎ Grants m q p (node_of (on_message m q (nat_abs v.0) v.1.1).bytes)
      by (takes o l n f) =
          let i = ap node_of f ∙ node-node m (nat_abs v.0) (long-enough m s) in
          inr
          (record {
            named = record { source = own-named v.1.1 o; values = v; read = e };
            unique = begins-whole v.1.1 (unique_of m) (own-begins v.1.1 o) (l ∙ sym unique-long);
            node = sym i;
            some = λ w. n (sym i ∙ w);
          })
      by (skips_over o l f) = inl (ap node_of f ∙ node-waits (suc (length v.1.1)) ∙ z)
      by (drops f) = inl (ap node_of f ∙ node-waits 0 ∙ z)

    confirmed : (k : ℕ) (x : Answer (Values allocation)) → decoded allocation p ≡ x → pending_of (on_read x m q).bytes ≡ suc k
        → ((on_read x m q).bytes ≡ m) ⊎ ((node_of (on_read x m q).bytes ≡ 0 → ⊥) ⊎ Confirms m q p k)
    confirmed k (refused i) e h = inl refl
    confirmed k (got v) e h = by (on (nat_abs v.0) v.1.1) where
      by : On (nat_abs v.0) v.1.1
          → ((on_message m q (nat_abs v.0) v.1.1).bytes ≡ m) ⊎ ((node_of (on_message m q (nat_abs v.0) v.1.1).bytes ≡ 0 → ⊥) ⊎ Confirms m q p k)
      by (takes o l n f) = inr (inl (λ w. n (sym (ap node_of f ∙ node-node m (nat_abs v.0) (long-enough m s)) ∙ w)))
      by (skips_over o l f) =
          let j : suc (length v.1.1) ≡ suc k = sym (ap pending_of f ∙ pending-waits (suc (length v.1.1))) ∙ h in
          inr
          (inr
          (record {
            named = record { source = own-named v.1.1 o; values = v; read = e };
            prefix = own-begins v.1.1 o;
            bytes = omega arith;
            part = omega arith;
          }))
      by (drops f) = absurd (let j : 0 ≡ suc k = sym (ap pending_of f ∙ pending-waits 0) ∙ h in omega arith)

  -- one that has an ID
  pub keeps : (p : List ℕ) → (node_of m ≡ 0 → ⊥) → (heard m q p).bytes ≡ m
  unfolding heard
  keeps p n = rw (s, ne_eqb (node_of m) 0 n)

  pub takes-own : (p : List ℕ) → node_of m ≡ 0 → (node_of (heard m q p).bytes ≡ 0) ⊎ Grants m q p (node_of (heard m q p).bytes)
  takes-own p z = rw (by_read p z) (granted p z (decoded allocation p) refl)

  pub confirms-own : (p : List ℕ) (k : ℕ) → pending_of (heard m q p).bytes ≡ suc k → ((heard m q p).bytes ≡ m) ⊎ ((node_of (heard m q p).bytes ≡ 0 → ⊥) ⊎ Confirms m q p k)
  confirms-own p k h = go (eqb (node_of m) 0) refl where
    go : (b : Bool) → eqb (node_of m) 0 ≡ b → ((heard m q p).bytes ≡ m) ⊎ ((node_of (heard m q p).bytes ≡ 0 → ⊥) ⊎ Confirms m q p k)
    go true e = let z : node_of m ≡ 0 = eqb-true (node_of m) 0 e in rw (by_read p z) (confirmed p z k (decoded allocation p) refl (rw (by_read p z) at h))
    go false e = inl (keeps p (eqb-false (node_of m) 0 e))

-- ── a call on time ──

-- the state that it leaves
data Left (m : List ℕ) (t x : ℕ) (y : List ℕ) : Type 0 where
  as_it_was : y ≡ m → Left m t x y
  followed : sound_state m ≡ true → y ≡ with_pending m 0 → Left m t x y
  requested : sound_state m ≡ true → y ≡ with_timer m t x → Left m t x y

-- what is sent leaves the one state or the other
sent-leaves : (P : List ℕ → Type 0) (first : ℕ) (part m m' : List ℕ) (t : ℕ) (out : List ℕ) → P m → P m' → P (sent first part m m' t out).bytes
sent-leaves P first part m m' t out a b = go (ltb (length out) request_max) refl (encoded allocation (pos (preferred_of m), (pos first, part)) (length out)) refl where
  go : (d : Bool) → ltb (length out) request_max ≡ d → (x : Answer (List ℕ)) → encoded allocation (pos (preferred_of m), (pos first, part)) (length out) ≡ x
      → P (sent first part m m' t out).bytes
  go true e x f = rw e a
  go false e (refused n) f = rw (e, f) a
  go false e (got bs) f = rw (e, f) b

polled-leaves : (m : List ℕ) (t x : ℕ) (out : List ℕ) → Left m t x (polled m t x out).bytes
unfolding polled follows_up requests
polled-leaves m t x out = go (sound_state m) refl (eqb (node_of m) 0) refl (follow_up_due m t) refl (request_due m t) refl where
  go : (a : Bool) → sound_state m ≡ a → (b : Bool) → eqb (node_of m) 0 ≡ b → (c : Bool) → follow_up_due m t ≡ c → (d : Bool) → request_due m t ≡ d → Left m t x (polled m t x out).bytes
  go false ea b eb c ec d ed = rw ea (as_it_was refl)
  go true ea false eb c ec d ed = rw (ea, eb) (as_it_was refl)
  go true ea true eb true ec d ed =
      rw (ea, eb, ec) (sent-leaves (Left m t x) 0 (span (unique_of m) (pending_of m - 1) 6) m (with_pending m 0) t out (as_it_was refl) (followed ea refl))
  go true ea true eb false ec true ed = rw (ea, eb, ec, ed) (sent-leaves (Left m t x) 1 (span (unique_of m) 0 6) m (with_timer m t x) t out (as_it_was refl) (requested ea refl))
  go true ea true eb false ec false ed = rw (ea, eb, ec, ed) (as_it_was refl)

node-left : (m : List ℕ) (t x : ℕ) (y : List ℕ) → Left m t x y → node_of y ≡ node_of m
node-left m t x y (as_it_was e) = ap node_of e
node-left m t x y (followed s e) = ap node_of e ∙ node-pending m 0
node-left m t x y (requested s e) = ap node_of e ∙ node-timer m t x (long-enough m s)

pending-left : (m : List ℕ) (t x : ℕ) (y : List ℕ) → Left m t x y → (pending_of y ≡ 0) ⊎ (pending_of y ≡ pending_of m)
pending-left m t x y (as_it_was e) = inr (ap pending_of e)
pending-left m t x y (followed s e) = inl (ap pending_of e ∙ pending-pending m 0 (long-enough m s))
pending-left m t x y (requested s e) = inr (ap pending_of e ∙ pending-timer m t x (long-enough m s))

pub takes-its-own : TakesItsOwn
takes-its-own =
    record {
      by-message = λ m q p s z. takes-own m q s p z;
      not-by-time = λ m t x out. node-left m t x (polled m t x out).bytes (polled-leaves m t x out);
      kept = λ m q p s n. keeps m q s p n;
    }

pub follows-its-own : FollowsItsOwn
follows-its-own =
    record {
      by-message = λ m q p k s h. confirms-own m q s p k h;
      not-by-time = λ m t x out s. pending-left m t x (polled m t x out).bytes (polled-leaves m t x out);
    }

-- ── asking again ──

since-timer : (m : List ℕ) (t x : ℕ) → size ≤ length m → t < 2 ^ 64 → since_of (with_timer m t x) ≡ t
unfolding since_of with_timer
since-timer m t x h l =
    let a = le_bytes 8 t in
    let b = le_bytes 4 (x % 4294967296) in
    let d = le_bytes 4 (x / 4294967296) in
    let m₁ = splice m since_at a in
    let f₁ : since_at + length a ≤ length m = omega (arith, length-le_bytes 8 t) in
    let l₁ : length m₁ ≡ length m = length-splice m since_at a f₁ in
    let f₂ : period_at + length b ≤ length m₁ = omega (arith, length-le_bytes 4 (x % 4294967296), l₁) in
    let l₂ : length (splice m₁ period_at b) ≡ length m = length-splice m₁ period_at b f₂ ∙ l₁ in
    ap le
    (span-before (splice m₁ period_at b) delay_at d (omega (arith, length-le_bytes 4 (x / 4294967296), l₂)) since_at 8 (omega arith)
    ∙ span-before m₁ period_at b f₂ since_at 8 (omega arith) ∙ span_same m since_at a f₁ 8 (sym (length-le_bytes 8 t)))
    ∙ le-le_bytes 8 t l

due : (m : List ℕ) (t : ℕ) → 1000000 ≤ t - since_of m → request_due m t ≡ true
unfolding request_due period_of
due m t h = le-leb (period_min + le (span m period_at 4) % spread) (t - since_of m) (omega arith)

pub asks-again : AsksAgain
asks-again m t x out i room small late =
    let n = long-enough m i.sound in
    let u = unique_of m in
    let p = preferred_of m in
    let hp = preferred-small m i.sound in
    let r : Ready m u p 0 = record { long = n; unique = refl; preferred = refl; node = i.no_node; skips = i.none-pending } in
    let d = due m t late in
    let e : (polled m t x out).bytes ≡ with_timer m t x = (first_said u (unique-length m n) i.octets p hp m t x out r room d).bytes in
    let r' = ready-timer m u p 0 r t x in
    record {
      request = sym (polled-requests m t x out i.sound 0 (sym i.no_node) refl (none m t i.none-pending) d);
      idle =
          rw e
          (record { sound = ready-sound (with_timer m t x) u p 0 r' hp (omega arith); no_node = r'.node; none-pending = r'.skips; octets = rw r'.unique i.octets });
      since = ap since_of e ∙ since-timer m t x n small;
    }
