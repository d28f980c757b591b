-- One send, seen from one stream: the transfer ID that it draws may follow, and what the map then holds.
use mathlib.Core.Path.{◌≡◌, refl, sym, ap, ◌∙◌, subst}
use mathlib.Core.Bool.{Bool, true, false, ◌||◌, false≢true, or-true}
use mathlib.Core.List.{[], ◌∷◌}
use mathlib.Core.Option.{Option, none, some}
use mathlib.Mathlib.Data.Bool.Basic.{and_intro}
use Prim.Native.Nat.{ℕ, zero, suc, ◌+◌, ◌*◌, ◌-◌, ◌≤◌, ◌<◌}
use native.Mathlib.Omega.{arith}
use lib.Dec.{ltb, eqb}
use lib.ListN.{length, get_or, set}
use lib.Seq.{get_or-set_same, get_or-set_other}
use borrow.Author.Tests.{eqb-true, eqb-false, eq-eqb, leb-true, le-leb, ltb-false}
use Rattle.rules.specs.Frame.{Stream}
use Rattle.rules.specs.Map.{Topic, Slot, free, used, Map, same_topic, is_of, is_free, is_unused, slot_for, drawn, times, slot_fits, sound}
use Rattle.rules.specs.Sending.{Call, topic_of, is_response, not_sendable, frame_count, Outcome, unsendable, long, small, full, frames_of, Step, refuse, transmit, send_at, send_in, send_as, send_step}
use Rattle.rules.specs.SendingLaws.{InRange}
use Rattle.rules.specs.Sent.{flag}
use Rattle.rules.specs.Session.{next}
use Rattle.rules.specs.Table.{plus1, seek, or_else}
use Rattle.rules.specs.Tests.{pick}
use Rattle.rules.proofs.Calls.{in-range}
use Rattle.rules.proofs.Draws.{same_refl, same-eq, times-set, times-some, all-fit, entry-fits}
use Rattle.judge_rules.specs.Good.{Before, may_follow}

-- ── the place that a call gets ──

-- its topic's; or another, of a map that has none of it, empty or unused for two seconds
pub data Chosen (k : Topic) (now : ℕ) (m : Map) (i : ℕ) : Type 0 where
  found : i < length m → is_of k (get_or m i free) ≡ true → Chosen k now m i
  fresh : i < length m → times k m ≡ 0 → ((e : Topic) (t since : ℕ) → get_or m i free ≡ used e t since → since + 2000000 ≤ now) → Chosen k now m i

record Passed (t : Slot → Bool) (m : Map) (i : ℕ) : Type 0 where
  pub inside : i < length m
  pub passes : t (get_or m i free) ≡ true

abbrev Sought : (Slot → Bool) → Map → Option ℕ → Type 0
Sought t m none = (i : ℕ) → i < length m → t (get_or m i free) ≡ false
Sought t m (some i) = Passed t m i

sought : (t : Slot → Bool) (m : Map) → Sought t m (seek t m)
unfolding seek
sought t [] = λ i h. absurd (omega arith)
sought t (s ∷ m) = go (t s) refl (seek t m) (sought t m)
  where
    go : (b : Bool) → t s ≡ b → (o : Option ℕ) → Sought t m o → Sought t (s ∷ m) (pick b (some 0) (plus1 o))
    go true e o h = record { inside = omega arith; passes = e }
    go false e (some i) h = record { inside = omega (arith, h.inside); passes = h.passes }
    go false e none h = nowhere
      where
        nowhere : (i : ℕ) → i < suc (length m) → t (get_or (s ∷ m) i free) ≡ false
        nowhere zero k = e
        nowhere (suc i) k = h i (omega arith)

none-times : (k : Topic) (m : Map) → ((i : ℕ) → i < length m → is_of k (get_or m i free) ≡ false) → times k m ≡ 0
unfolding times
none-times k [] h = refl
none-times k (s ∷ m) h = let q = none-times k m (λ i l. h (suc i) (omega arith)) in rw (h 0 (omega arith)) (omega arith)

abbrev Choice : Topic → ℕ → Map → Option ℕ → Type 0
Choice k now m none = Unit {0}
Choice k now m (some i) = Chosen k now m i

chosen : (k : Topic) (now : ℕ) (m : Map) → Choice k now m (slot_for k now m)
unfolding slot_for
chosen k now m = go (seek (is_of k) m) (sought (is_of k) m) (seek is_free m) (sought is_free m) (seek (is_unused now) m) (sought (is_unused now) m)
  where
    go : (a : Option ℕ) → Sought (is_of k) m a → (b : Option ℕ) → Sought is_free m b → (c : Option ℕ) → Sought (is_unused now) m c → Choice k now m (or_else a (or_else b c))
    go (some i) ha b hb c hc = found ha.inside ha.passes
    go none ha (some i) hb c hc = fresh hb.inside (none-times k m ha) (λ e t since q. absurd (false≢true (sym (ap is_free q) ∙ hb.passes)))
    go none ha none hb (some i) hc =
        fresh hc.inside (none-times k m ha) (λ e t since q. let l = leb-true 2000000 (now - since) (sym (ap (is_unused now) q) ∙ hc.passes) in omega arith)
    go none ha none hb none hc = tt

-- ── one send ──

pub data Result (c : Call) (m : Map) : Step → Type 0 where
  refused : (o : Outcome) → frames_of o ≡ 0 → Result c m (refuse o m)
  response : InRange c → length c.payload ≤ 512 → c.transfer_type ≡ 2 → Result c m (transmit c c.transfer m)
  placed : (i : ℕ) → InRange c → length c.payload ≤ 512 → (c.transfer_type ≡ 2 → ⊥) → Chosen (topic_of c) c.time m i
      → Result c m (transmit c (drawn (topic_of c) (get_or m i free)) (set m i (used (topic_of c) (next (drawn (topic_of c) (get_or m i free))) c.time)))

pub returned : (c : Call) (m : Map) (room : ℕ) → Result c m (send_step c m room)
unfolding send_step send_as send_in send_at
returned c m room = fit (not_sendable c) refl (ltb 512 (length c.payload)) refl (ltb room (13 * frame_count (length c.payload)))
  where
    at : InRange c → length c.payload ≤ 512 → (c.transfer_type ≡ 2 → ⊥) → (o : Option ℕ) → Choice (topic_of c) c.time m o → Result c m (send_in o c m)
    at ok size n none h = refused full refl
    at ok size n (some i) h = placed i ok size n h

    of-kind : InRange c → length c.payload ≤ 512 → (b : Bool) → is_response c ≡ b → Result c m (send_as b c m)
    of-kind ok size true e = response ok size (eqb-true c.transfer_type 2 e)
    of-kind ok size false e = at ok size (eqb-false c.transfer_type 2 e) (slot_for (topic_of c) c.time m) (chosen (topic_of c) c.time m)

    fit : (a : Bool) → not_sendable c ≡ a → (b : Bool) → ltb 512 (length c.payload) ≡ b → (r : Bool)
        → Result c m (pick a (refuse unsendable m) (pick b (refuse long m) (pick r (refuse small m) (send_as (is_response c) c m))))
    fit true e b q r = refused unsendable refl
    fit false e true q r = refused long refl
    fit false e false q true = refused small refl
    fit false e false q false = of-kind (in-range c e) (ltb-false 512 (length c.payload) q) (is_response c) refl

-- ── what the map knows of a stream's last transfer ──

abbrev pub topic : Stream → Topic
topic d = record { transfer_type = d.transfer_type; type = d.type; destination = d.destination }

-- a response needs no map; else its entry stands, or it was replaced, two seconds after the transfer or later
pub data Knows (d : Stream) (m : Map) (t : ℕ) (b : Before) : Type 0 where
  any : d.transfer_type ≡ 2 → Knows d m t b
  entry : (i : ℕ) → get_or m i free ≡ used (topic d) (next b.transfer) b.since → Knows d m t b
  lost : times (topic d) m ≡ 0 → b.since + 2000000 ≤ t → Knows d m t b

abbrev pub Known : Stream → Map → ℕ → Option Before → Type 0
Known d m t none = Unit {0}
Known d m t (some b) = Knows d m t b

pub later : (d : Stream) (m : Map) (t t' : ℕ) (b : Option Before) → t ≤ t' → Known d m t b → Known d m t' b
later d m t t' none h k = tt
later d m t t' (some b) h (any e) = any e
later d m t t' (some b) h (entry i e) = entry i e
later d m t t' (some b) h (lost z l) = lost z (omega arith)

alone : (m : Map) → sound m ≡ true → (k : Topic) (i t since : ℕ) → get_or m i free ≡ used k t since → times k m ≡ 1
alone m ok k i t since e = (entry-fits m k t since (subst (λ s. slot_fits m s ≡ true) e (all-fit m ok i))).alone

differ : (a b : Topic) → same_topic a b ≡ false → same_topic b a ≡ false
differ a b e = go (same_topic b a) refl
  where
    go : (x : Bool) → same_topic b a ≡ x → x ≡ false
    go false q = refl
    go true q = absurd (false≢true (sym e ∙ ap (same_topic a) (same-eq b a q) ∙ same_refl a))

-- ── another topic's send ──

pub kept : (d : Stream) (m : Map) (k : Topic) (n now i : ℕ) (b : Option Before) → sound m ≡ true → same_topic k (topic d) ≡ false → Chosen k now m i
    → Known d m now b → Known d (set m i (used k n now)) now b
kept d m k n now i none ok x c h = tt
kept d m k n now i (some b) ok x c (any e) = any e
kept d m k n now i (some b) ok x c (lost z l) = lost (gone c) l
  where
    gone : Chosen k now m i → times (topic d) (set m i (used k n now)) ≡ 0
    gone (found inside e) = let q = times-set (topic d) m i (used k n now) inside in let f : flag (same_topic k (topic d)) ≡ 0 = ap flag x in omega arith
    gone (fresh inside e f) = let q = times-set (topic d) m i (used k n now) inside in let f : flag (same_topic k (topic d)) ≡ 0 = ap flag x in omega arith
kept d m k n now i (some b) ok x c (entry j e) = go (eqb j i) refl c
  where
    at_place : j ≡ i → get_or m i free ≡ used (topic d) (next b.transfer) b.since
    at_place q = subst (λ z. get_or m z free ≡ used (topic d) (next b.transfer) b.since) q e

    go : (y : Bool) → eqb j i ≡ y → Chosen k now m i → Knows d (set m i (used k n now)) now b
    go false q c = entry j (get_or-set_other m i j (used k n now) free (eqb-false j i q) ∙ e)
    go true q (found inside h) =
        absurd (false≢true (sym (differ k (topic d) x) ∙ sym (ap (is_of k) (at_place (eqb-true j i q))) ∙ h))
    go true q (fresh inside h f) =
        let w = at_place (eqb-true j i q) in
        let one : times (topic d) m ≡ 1 = alone m ok (topic d) j (next b.transfer) b.since e in
        let s = times-set (topic d) m i (used k n now) inside in
        let z : flag (same_topic k (topic d)) ≡ 0 = ap flag x in
        let v : flag (is_of (topic d) (get_or m i free)) ≡ 1 = ap flag (ap (is_of (topic d)) w ∙ same_refl (topic d)) in
        lost (omega arith) (f (topic d) (next b.transfer) b.since w)

-- ── the topic's own ──

-- of a topic that has one entry, two places with it are one
one_place : (m : Map) (k : Topic) (i j : ℕ) → i < length m → times k m ≡ 1 → is_of k (get_or m i free) ≡ true → is_of k (get_or m j free) ≡ true → j ≡ i
one_place m k i j inside one a b = go (eqb j i) refl
  where
    go : (y : Bool) → eqb j i ≡ y → j ≡ i
    go true q = eqb-true j i q
    go false q =
        let s = times-set k m i free inside in
        let v : flag (is_of k (get_or m i free)) ≡ 1 = ap flag a in
        let t : 1 ≤ times k (set m i free) = times-some k (set m i free) j (ap (is_of k) (get_or-set_other m i j free free (eqb-false j i q)) ∙ b) in
        absurd (omega arith)

drawn-used : (k : Topic) (t since : ℕ) → drawn k (used k t since) ≡ t
drawn-used k t since = ap (λ b. pick b t 0) (same_refl k)

drawn-none : (k : Topic) (s : Slot) → is_of k s ≡ false → drawn k s ≡ 0
drawn-none k free e = refl
drawn-none k (used x t since) e = ap (λ b. pick b t 0) e

or-first : (a b : Bool) → a ≡ true → (a || b) ≡ true
or-first a b e = rw e

or-second : (a b : Bool) → b ≡ true → (a || b) ≡ true
or-second a b e = rw e (or-true a)

pub follows : (d : Stream) (m : Map) (i now : ℕ) (b : Option Before) → sound m ≡ true → Chosen (topic d) now m i → Known d m now b
    → may_follow d b (drawn (topic d) (get_or m i free)) now ≡ true
follows d m i now none ok c h = refl
follows d m i now (some b) ok c (any e) = or-first _ _ (eq-eqb d.transfer_type 2 e)
follows d m i now (some b) ok (found inside a) (entry j e) =
    let one : times (topic d) m ≡ 1 = alone m ok (topic d) j (next b.transfer) b.since e in
    let q : j ≡ i = one_place m (topic d) i j inside one a (ap (is_of (topic d)) e ∙ same_refl (topic d)) in
    let w : get_or m i free ≡ used (topic d) (next b.transfer) b.since = subst (λ z. get_or m z free ≡ used (topic d) (next b.transfer) b.since) q e in
    or-second (eqb d.transfer_type 2) _ (or-first _ _ (eq-eqb _ _ (ap (drawn (topic d)) w ∙ drawn-used (topic d) (next b.transfer) b.since)))
follows d m i now (some b) ok (fresh inside z f) (entry j e) =
    let t = times-some (topic d) m j (ap (is_of (topic d)) e ∙ same_refl (topic d)) in
    absurd (omega arith)
follows d m i now (some b) ok (found inside a) (lost z l) = let t = times-some (topic d) m i a in absurd (omega arith)
follows d m i now (some b) ok (fresh inside z f) (lost y l) =
    let w : drawn (topic d) (get_or m i free) ≡ 0 = drawn-none (topic d) (get_or m i free) (not-of (is_of (topic d) (get_or m i free)) refl) in
    or-second (eqb d.transfer_type 2) _ (or-second (eqb (drawn (topic d) (get_or m i free)) (next b.transfer)) _
    (and_intro (eq-eqb (drawn (topic d) (get_or m i free)) 0 w) (le-leb (b.since + 2000000) now l)))
  where
    not-of : (x : Bool) → is_of (topic d) (get_or m i free) ≡ x → x ≡ false
    not-of false q = refl
    not-of true q = let t = times-some (topic d) m i q in absurd (omega arith)

pub inside_of : {k : Topic} {now : ℕ} {m : Map} {i : ℕ} → Chosen k now m i → i < length m
inside_of (found inside a) = inside
inside_of (fresh inside z f) = inside

pub entered : (d : Stream) (m : Map) (i t now : ℕ) → i < length m
    → Known d (set m i (used (topic d) (next t) now)) now (some (record { transfer = t; since = now }))
entered d m i t now h = entry i (get_or-set_same m i (used (topic d) (next t) now) free h)
