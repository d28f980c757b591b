-- The transfer-ID map: what a place gives a topic, and that a map without a fault stays one.
use mathlib.Core.Path.{◌≡◌, refl, sym, ap, ◌∙◌, subst}
use mathlib.Core.Bool.{Bool, true, false, false≢true}
use mathlib.Core.List.{List, [], ◌∷◌}
use mathlib.Core.Option.{Option, none, some}
use mathlib.Mathlib.Data.Bool.Basic.{and_elim_left, and_elim_right, and_intro}
use Prim.Native.Nat.{ℕ, zero, suc, ◌+◌, ◌≤◌, ◌<◌}
use native.Mathlib.Omega.{arith}
use lib.Dec.{ltb, eqb}
use lib.ListN.{length, get_or, set}
use lib.Seq.{get_or-set_same, get_or-set_other}
use borrow.Author.Tests.{eqb-true, eqb-false, eq-eqb, lt-ltb, ltb-true}
use Rattle.rules.specs.Map.{Topic, Slot, free, used, Map, same_topic, is_of, is_free, is_unused, slot_for, drawn, topic_fits, times, slot_fits, slots_fit, sound}
use Rattle.rules.specs.SendingLaws.{offered}
use Rattle.rules.specs.Sent.{flag}
use Rattle.rules.specs.Table.{plus1, seek, or_else}
use Rattle.rules.specs.Tests.{pick}

-- ── topics ──

pub same_refl : (k : Topic) → same_topic k k ≡ true
unfolding same_topic
same_refl k = rw (eq-eqb k.transfer_type k.transfer_type refl, eq-eqb k.type k.type refl, eq-eqb k.destination k.destination refl)

pub same-eq : (a b : Topic) → same_topic a b ≡ true → a ≡ b
unfolding same_topic
same-eq a b e =
    let e₂ = and_elim_right (eqb a.transfer_type b.transfer_type) _ e in
    let k = eqb-true a.transfer_type b.transfer_type (and_elim_left _ _ e) in
    let t = eqb-true a.type b.type (and_elim_left _ _ e₂) in
    let d = eqb-true a.destination b.destination (and_elim_right (eqb a.type b.type) _ e₂) in
    λ i. record { transfer_type = k i; type = t i; destination = d i }

-- ── places ──

-- in the map, and holding the topic's entry
pub record Sought (k : Topic) (m : Map) (i : ℕ) : Type 0 where
  pub inside : i < length m
  pub holds : is_of k (get_or m i free) ≡ true

abbrev Found : Topic → Map → Option ℕ → Type 0
Found k m none = times k m ≡ 0
Found k m (some i) = Sought k m i

seek-topic : (k : Topic) (m : Map) → Found k m (seek (is_of k) m)
unfolding seek times
seek-topic k [] = refl
seek-topic k (s ∷ m) = go (is_of k s) refl (seek (is_of k) m) (seek-topic k m)
  where
    go : (b : Bool) → is_of k s ≡ b → (o : Option ℕ) → Found k m o → Found k (s ∷ m) (pick b (some 0) (plus1 o))
    go true e o h = record { inside = omega arith; holds = e }
    go false e none h = rw (e, h)
    go false e (some i) h = record { inside = omega (arith, h.inside); holds = h.holds }

-- the place that a call gets: its topic's, or one of a map that has none of it
pub data Given (k : Topic) (m : Map) : Option ℕ → Type 0 where
  nowhere : Given k m none
  found : {i : ℕ} → Sought k m i → Given k m (some i)
  fresh : {i : ℕ} → i < length m → times k m ≡ 0 → Given k m (some i)

abbrev Below : ℕ → Option ℕ → Type 0
Below n none = Unit {0}
Below n (some i) = i < n

seek-below : (t : Slot → Bool) (m : Map) → Below (length m) (seek t m)
unfolding seek
seek-below t [] = tt
seek-below t (s ∷ m) = go (t s) (seek t m) (seek-below t m)
  where
    go : (b : Bool) (o : Option ℕ) → Below (length m) o → Below (suc (length m)) (pick b (some 0) (plus1 o))
    go true o h = omega arith
    go false none h = tt
    go false (some i) h = omega arith

pub given : (k : Topic) (now : ℕ) (m : Map) → Given k m (slot_for k now m)
unfolding slot_for
given k now m = go (seek (is_of k) m) (seek-topic k m) (seek is_free m) (seek-below is_free m) (seek (is_unused now) m) (seek-below (is_unused now) m)
  where
    go : (a : Option ℕ) → Found k m a → (b : Option ℕ) → Below (length m) b → (c : Option ℕ) → Below (length m) c → Given k m (or_else a (or_else b c))
    go (some i) h b hb c hc = found h
    go none h (some i) hb c hc = fresh hb h
    go none h none hb (some i) hc = fresh hc h
    go none h none hb none hc = nowhere

-- ── the transfer ID ──

-- what a place gives is what the map gives, and what is stored there is what it gives then
abbrev pub Gives : Topic → Map → Option ℕ → Type 0
Gives k m none = Unit {0}
Gives k m (some i) = (drawn k (get_or m i free) ≡ offered k m) × ((t since : ℕ) → offered k (set m i (used k t since)) ≡ t)

-- the topic's own place does; if it has none, every place does
abbrev Offers : Topic → Map → Option ℕ → Type 0
Offers k m none = (offered k m ≡ 0) × ((i : ℕ) → i < length m → Gives k m (some i))
Offers k m (some i) = Gives k m (some i)

-- a place that is not the topic's is passed by
record Passes (k : Topic) (s : Slot) : Type 0 where
  pub nothing : drawn k s ≡ 0
  pub onward : (m : Map) → offered k (s ∷ m) ≡ offered k m

passes : (k : Topic) (s : Slot) → is_of k s ≡ false → Passes k s
unfolding offered
passes k free e = record { nothing = refl; onward = λ m. refl }
passes k (used x t since) e = record { nothing = ap (λ b. pick b t 0) e; onward = λ m. ap (λ b. pick b t (offered k m)) e }

stored-first : (k : Topic) (m : Map) (t since : ℕ) → offered k (used k t since ∷ m) ≡ t
unfolding offered
stored-first k m t since = ap (λ b. pick b t (offered k m)) (same_refl k)

gives-first : (k : Topic) (s : Slot) (m : Map) → is_of k s ≡ true → Gives k (s ∷ m) (some 0)
unfolding offered
gives-first k free m e = absurd (false≢true e)
gives-first k (used x t since) m e = (ap (λ b. pick b t 0) e ∙ sym (ap (λ b. pick b t (offered k m)) e), stored-first k m)

gives-behind : (k : Topic) (s : Slot) (m : Map) (i : ℕ) → Passes k s → Gives k m (some i) → Gives k (s ∷ m) (some (suc i))
gives-behind k s m i p h = (h.0 ∙ sym (p.onward m), λ t since. p.onward (set m i (used k t since)) ∙ h.1 t since)

gives-any : (k : Topic) (s : Slot) (m : Map) → Passes k s → Offers k m none → (i : ℕ) → i < length (s ∷ m) → Gives k (s ∷ m) (some i)
gives-any k s m p h zero l = (p.nothing ∙ sym (p.onward m ∙ h.0), stored-first k m)
gives-any k s m p h (suc i) l = gives-behind k s m i p (h.1 i (omega arith))

offers : (k : Topic) (m : Map) → Offers k m (seek (is_of k) m)
unfolding seek offered
offers k [] = (refl, λ i h. absurd (omega arith))
offers k (s ∷ m) = go (is_of k s) refl (seek (is_of k) m) (offers k m)
  where
    go : (b : Bool) → is_of k s ≡ b → (o : Option ℕ) → Offers k m o → Offers k (s ∷ m) (pick b (some 0) (plus1 o))
    go true e o h = gives-first k s m e
    go false e none h = ((passes k s e).onward m ∙ h.0, gives-any k s m (passes k s e) h)
    go false e (some i) h = gives-behind k s m i (passes k s e) h

pub gives : (k : Topic) (now : ℕ) (m : Map) → Gives k m (slot_for k now m)
unfolding slot_for
gives k now m = go (seek (is_of k) m) (offers k m) (seek is_free m) (seek-below is_free m) (seek (is_unused now) m) (seek-below (is_unused now) m)
  where
    go : (a : Option ℕ) → Offers k m a → (b : Option ℕ) → Below (length m) b → (c : Option ℕ) → Below (length m) c → Gives k m (or_else a (or_else b c))
    go (some i) h b hb c hc = h
    go none h (some i) hb c hc = h.1 i hb
    go none h none hb (some i) hc = h.1 i hc
    go none h none hb none hc = tt

-- ── counting ──

-- a store takes the old slot from the count and adds the new
pub times-set : (k : Topic) (m : Map) (i : ℕ) (s : Slot) → i < length m → times k (set m i s) + flag (is_of k (get_or m i free)) ≡ times k m + flag (is_of k s)
unfolding times
times-set k [] i s h = absurd (omega arith)
times-set k (x ∷ m) zero s h = omega arith
times-set k (x ∷ m) (suc i) s h = let q = times-set k m i s (omega arith) in omega arith

pub times-some : (k : Topic) (m : Map) (i : ℕ) → is_of k (get_or m i free) ≡ true → 1 ≤ times k m
unfolding times
times-some k [] i e = absurd (false≢true e)
times-some k (s ∷ m) zero e = rw e (omega arith)
times-some k (s ∷ m) (suc i) e = let q = times-some k m i e in omega arith

-- ── maps that fit ──

fit_at : (m : Map) (l : List Slot) → slots_fit m l ≡ true → (j : ℕ) → slot_fits m (get_or l j free) ≡ true
fit_at m [] h j = refl
fit_at m (s ∷ l) h zero = and_elim_left _ _ h
fit_at m (s ∷ l) h (suc j) = fit_at m l (and_elim_right (slot_fits m s) _ h) j

fit_all : (m : Map) (l : List Slot) → ((j : ℕ) → slot_fits m (get_or l j free) ≡ true) → slots_fit m l ≡ true
fit_all m [] h = refl
fit_all m (s ∷ l) h = and_intro (h 0) (fit_all m l (λ j. h (suc j)))

pub all-fit : (m : Map) → sound m ≡ true → (j : ℕ) → slot_fits m (get_or m j free) ≡ true
unfolding sound
all-fit m h = fit_at m m (and_elim_right (eqb (length m) 32) _ h)

pub record EntryFits (m : Map) (k : Topic) (t : ℕ) : Type 0 where
  pub topic : topic_fits k ≡ true
  pub transfer : t < 32
  pub alone : times k m ≡ 1

pub entry-fits : (m : Map) (k : Topic) (t since : ℕ) → slot_fits m (used k t since) ≡ true → EntryFits m k t
entry-fits m k t since h =
    let q = and_elim_right (topic_fits k) _ h in
    record {
      topic = and_elim_left _ _ h;
      transfer = ltb-true t 32 (and_elim_left _ _ q);
      alone = eqb-true (times k m) 1 (and_elim_right (ltb t 32) _ q);
    }

fits-entry : (m : Map) (k : Topic) (t since : ℕ) → EntryFits m k t → slot_fits m (used k t since) ≡ true
fits-entry m k t since h = and_intro h.topic (and_intro (lt-ltb t 32 h.transfer) (eq-eqb (times k m) 1 h.alone))

-- what is drawn is a transfer ID
pub drawn-small : (k : Topic) (m : Map) (s : Slot) → slot_fits m s ≡ true → drawn k s < 32
drawn-small k m free h = omega arith
drawn-small k m (used e t since) h = go (same_topic e k) (entry-fits m e t since h).transfer
  where
    go : (b : Bool) → t < 32 → pick b t 0 < 32
    go true l = l
    go false l = omega arith

-- ── a map with one entry stored ──

module _ (m : Map) (ok : (j : ℕ) → slot_fits m (get_or m j free) ≡ true) (i : ℕ) (inside : i < length m) (k : Topic) (fits : topic_fits k ≡ true) (t since : ℕ) (small : t < 32) where
  abbrev new : Slot
  new = used k t since

  abbrev m' : Map
  m' = set m i new

  flag_one : (b : Bool) → b ≡ true → flag b ≡ 1
  flag_one b e = ap flag e

  flag-none : (b : Bool) → (b ≡ true → ⊥) → flag b ≡ 0
  flag-none true n = absurd (n refl)
  flag-none false n = refl

  -- the entry itself, once it is known to be alone
  own-fits : times k m' ≡ 1 → slot_fits m' (get_or m' i free) ≡ true
  own-fits e = ap (slot_fits m') (get_or-set_same m i new free inside) ∙ fits-entry m' k t since (record { topic = fits; transfer = small; alone = e })

  -- the others, once each is known to be there as often as before
  others-fit : ((j : ℕ) (e : Topic) → (j ≡ i → ⊥) → is_of e (get_or m j free) ≡ true → times e m ≡ 1 → times e m' ≡ 1)
      → (j : ℕ) → (j ≡ i → ⊥) → slot_fits m' (get_or m' j free) ≡ true
  others-fit same j n = ap (slot_fits m') (get_or-set_other m i j new free n) ∙ go (get_or m j free) refl (ok j)
    where
      go : (s : Slot) → get_or m j free ≡ s → slot_fits m s ≡ true → slot_fits m' s ≡ true
      go free q h = refl
      go (used e u at) q h =
          let f = entry-fits m e u at h in
          fits-entry m' e u at (record { topic = f.topic; transfer = f.transfer; alone = same j e n (ap (is_of e) q ∙ same_refl e) f.alone })

  all_then : times k m' ≡ 1 → ((j : ℕ) (e : Topic) → (j ≡ i → ⊥) → is_of e (get_or m j free) ≡ true → times e m ≡ 1 → times e m' ≡ 1) → slots_fit m' m' ≡ true
  all_then own same = fit_all m' m' (λ j. go j (eqb j i) refl)
    where
      go : (j : ℕ) (b : Bool) → eqb j i ≡ b → slot_fits m' (get_or m' j free) ≡ true
      go j true q = subst (λ x. slot_fits m' (get_or m' x free) ≡ true) (sym (eqb-true j i q)) (own-fits own)
      go j false q = others-fit same j (eqb-false j i q)

  -- over the topic's own entry no count changes
  pub kept-found : is_of k (get_or m i free) ≡ true → slots_fit m' m' ≡ true
  kept-found h = go (get_or m i free) refl h (ok i)
    where
      go : (s : Slot) → get_or m i free ≡ s → is_of k s ≡ true → slot_fits m s ≡ true → slots_fit m' m' ≡ true
      go free q e f = absurd (false≢true e)
      go (used x u at) q e f =
          let same : x ≡ k = same-eq x k e in
          let counts : (y : Topic) → times y m' ≡ times y m = λ y.
          let z : is_of y (get_or m i free) ≡ is_of y new = ap (is_of y) q ∙ ap (λ w. same_topic w y) same in
          omega (arith, times-set y m i new inside, ap flag z) in
          all_then (counts k ∙ ap (λ w. times w m) (sym same) ∙ (entry-fits m x u at f).alone) (λ j y n o one. counts y ∙ one)

  -- a new entry: none of its topic is there, and what it replaces stood once
  pub kept_fresh : times k m ≡ 0 → slots_fit m' m' ≡ true
  kept_fresh none-there =
      let o : flag (is_of k (get_or m i free)) ≡ 0 = flag-none (is_of k (get_or m i free)) (λ e. let q = times-some k m i e in omega arith) in
      let p : flag (is_of k new) ≡ 1 = flag_one (is_of k new) (same_refl k) in
      all_then (omega (arith, times-set k m i new inside))
      (λ j y n e one.
      let a : flag (is_of y new) ≡ 0 = flag-none (is_of y new) (λ q. let s = ap (λ w. times w m) (same-eq k y q) in omega arith) in
      let b : 1 ≤ times y (set m i free) = times-some y (set m i free) j (ap (is_of y) (get_or-set_other m i j free free n) ∙ e) in
      omega (arith, times-set y m i new inside, times-set y m i free inside))
