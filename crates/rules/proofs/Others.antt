-- What a step does to sessions: that of another stream stays as it was, or was old; and no stream comes to have two.
use mathlib.Core.Path.{◌≡◌, refl, sym, ap, ◌∙◌, subst}
use mathlib.Core.Logic.{◌⊎◌, inl, inr}
use mathlib.Core.Bool.{Bool, true, false, false≢true}
use mathlib.Core.List.{List, [], ◌∷◌, map}
use mathlib.Core.Option.{Option, none, some}
use mathlib.Mathlib.Data.Bool.Basic.{and_elim_left}
use Prim.Native.Nat.{ℕ, ◌+◌, ◌-◌, ◌<◌, ◌^◌}
use native.Mathlib.Omega.{arith}
use lib.Dec.{ltb}
use lib.ListN.{length, get_or, set}
use borrow.Author.Tests.{ltb-true, lt-ltb, leb-false}
use Rattle.rules.specs.Blocks.{stale}
use Rattle.rules.specs.Check.{Reception, Parsed, parsed, check}
use Rattle.rules.specs.Condition3.{of_stream}
use Rattle.rules.specs.Frame.{Stream, same_stream, is_anonymous}
use Rattle.rules.specs.Limits.{old_age}
use Rattle.rules.specs.Reception.{step_at, step_new, step_start, step_seek, step_anonymous, step_checked, step}
use Rattle.rules.specs.Session.{Session, old, closed, fresh}
use Rattle.rules.specs.Setup.{Setup}
use Rattle.rules.specs.Table.{Place, empty, held, Places, seek, holds, is_free, is_old, or_else, place_for}
use Rattle.rules.proofs.Checks.{accepted, checked}
use Rattle.rules.specs.Tests.{pick}
use Rattle.rules.proofs.Landing.{relief, Cleared, untouched, eased, sessions-eased, landed, inside-in, holds-in, sole-in, sole-at}
use Rattle.rules.proofs.Table.{same-eq, Found, seek-spec, sessions_of, fails-none, AtMostOne, Sole, kept, only}

-- ── old sessions ──

abbrev pub Old : ℕ → Session → Type 0
Old t s = s.since + old_age < t

old-true : (t : ℕ) (s : Session) → old t s ≡ true → Old t s
old-true t s e = omega (arith, ltb-true old_age (t - s.since) e)

pub true-old : (t : ℕ) (s : Session) → Old t s → old t s ≡ true
true-old t s h = lt-ltb old_age (t - s.since) (omega arith)

abbrev pub AllOld : ℕ → List Session → Type 0
AllOld t [] = Unit {0}
AllOld t (s ∷ l) = Old t s × AllOld t l

pub data Kept (d : Stream) (t : ℕ) (ps qs : Places) : Type 0 where
  still : sessions_of d qs ≡ sessions_of d ps → Kept d t ps qs
  aged : AllOld t (sessions_of d ps) → AllOld t (sessions_of d qs) → Kept d t ps qs

-- ── the place for a new session ──

abbrev pub FoundPlace : ℕ → Places → Option ℕ → Type 0
FoundPlace t ps none = Unit {0}
FoundPlace t ps (some i) = (i < length ps) × ((is_free (get_or ps i empty) ≡ true) ⊎ (is_old t (get_or ps i empty) ≡ true))

pub place-spec : (t : ℕ) (ps : Places) → FoundPlace t ps (place_for t ps)
unfolding place_for
place-spec t ps = go (seek is_free ps) (seek-spec is_free ps) (seek (is_old t) ps) (seek-spec (is_old t) ps)
  where
    go : (a : Option ℕ) → Found is_free ps a → (b : Option ℕ) → Found (is_old t) ps b → FoundPlace t ps (or_else a b)
    go (some i) h b k = (h.inside, inl h.passes)
    go none h none k = tt
    go none h (some i) k = (k.inside, inr k.passes)

-- ── a store for another stream ──

free-not-held : (d : Stream) (p : Place) → is_free p ≡ true → holds d p ≡ false
free-not-held d empty h = refl
free-not-held d (held e x bs) h = absurd (false≢true h)

-- who holds one stream does not hold another
not-both : (d e : Stream) (p : Place) → same_stream e d ≡ false → holds e p ≡ true → holds d p ≡ false
not-both d e empty n h = refl
not-both d e (held c x bs) n h = ap (λ k. same_stream k d) (same-eq c e h) ∙ n

module _ (d : Stream) (t : ℕ) (ps : Places) (one : AtMostOne (sessions_of d ps)) (i : ℕ) (q : Place) (inside : i < length ps) (foreign : holds d q ≡ false) where
  -- the place is not the stream's, or what it holds is old
  kept_at : (holds d (get_or ps i empty) ≡ false) ⊎ (is_old t (get_or ps i empty) ≡ true) → Kept d t ps (set ps i q)
  kept_at (inl h) = still (kept d ps i q inside h foreign)
  kept_at (inr h) = go (holds d (get_or ps i empty)) refl
    where
      go : (b : Bool) → holds d (get_or ps i empty) ≡ b → Kept d t ps (set ps i q)
      go false k = still (kept d ps i q inside k foreign)
      go true k =
          let o = only d ps i (record { inside = inside; passes = k }) one in
          aged (rw o.sole (old-true t o.holder (ap (is_old t) (sym o.here) ∙ h), tt)) (rw (o.freed q foreign) tt)

kept_trans : {d : Stream} {t : ℕ} {ps qs rs : Places} → Kept d t ps qs → Kept d t qs rs → Kept d t ps rs
kept_trans (still a) (still b) = still (b ∙ a)
kept_trans {t = t} (still a) (aged o n) = aged (subst (AllOld t) a o) n
kept_trans {t = t} (aged o n) (still b) = aged o (subst (AllOld t) (sym b) n)
kept_trans (aged o n) (aged p m) = aged o m

-- what is emptied for want of a block was old, and stays old
cleared-kept : {t : ℕ} {ps qs : Places} (d : Stream) → Cleared t ps qs → AtMostOne (sessions_of d ps) → Kept d t ps qs
cleared-kept d (untouched e) one = still (ap (sessions_of d) e)
cleared-kept {t} {ps} {qs} d (eased e) one = go (sessions_of d ps) refl one
  where
    now : (l : List Session) → sessions_of d ps ≡ l → sessions_of d qs ≡ map (relief t) l
    now l q = sessions-eased d t ps qs e ∙ ap (map (relief t)) q

    which : (x : Session) → sessions_of d ps ≡ x ∷ [] → (b : Bool) → stale t x ≡ b → Kept d t ps qs
    which x q true w = aged (rw q (old-true t x (and_elim_left _ _ w), tt)) (rw (now (x ∷ []) q, w) (old-true t x (and_elim_left _ _ w), tt))
    which x q false w = still (now (x ∷ []) q ∙ ap (λ b. pick b (closed x x.since) x ∷ []) w ∙ sym q)

    go : (l : List Session) → sessions_of d ps ≡ l → AtMostOne l → Kept d t ps qs
    go [] q o = still (now [] q ∙ sym q)
    go (x ∷ []) q o = which x q (stale t x) refl
    go (x ∷ y ∷ l) q o = absurd o

-- ── a frame of another stream ──

module _ (d : Stream) (ps : Places) (v : Parsed) (sole : Sole ps) (foreign : same_stream v.stream d ≡ false) where
  kept_step : (i : ℕ) (s : Session) (bs : List ℕ) → i < length ps → (holds v.stream (get_or ps i empty) ≡ true) ⊎ (sessions_of v.stream ps ≡ [])
      → (holds d (get_or ps i empty) ≡ false) ⊎ (is_old v.time (get_or ps i empty) ≡ true) → Kept d v.time ps (step_at ps i s bs v).places
  unfolding Sole
  kept_step i s bs inside mine h =
      let l = landed ps i s bs v in
      let away = not-both d v.stream (get_or l.table i empty) foreign (holds-in ps i s bs v inside l.clear) in
      kept_trans (kept_at d v.time ps (sole d) i (held v.stream s bs) inside foreign h)
      (kept_trans (cleared-kept d l.clear (sole-in ps i s bs v inside mine sole (untouched refl) d))
      (rw l.is (still (kept d l.table i (held v.stream l.session l.blocks) (inside-in ps i s bs v inside l.clear) away foreign))))

  kept_new : (o : Option ℕ) → FoundPlace v.time ps o → sessions_of v.stream ps ≡ [] → Kept d v.time ps (step_new o ps v).places
  unfolding step_new
  kept_new none h e = still refl
  kept_new (some i) h e = kept_step i (fresh v) [] h.0 (inr e) (go h.1)
    where
      go : (is_free (get_or ps i empty) ≡ true) ⊎ (is_old v.time (get_or ps i empty) ≡ true)
          → (holds d (get_or ps i empty) ≡ false) ⊎ (is_old v.time (get_or ps i empty) ≡ true)
      go (inl k) = inl (free-not-held d (get_or ps i empty) k)
      go (inr k) = inr k

  kept-start : (b : Bool) → sessions_of v.stream ps ≡ [] → Kept d v.time ps (step_start b ps v).places
  unfolding step_start
  kept-start true e = kept_new (place_for v.time ps) (place-spec v.time ps) e
  kept-start false e = still refl

  kept-seek : (o : Option ℕ) → Found (holds v.stream) ps o → Kept d v.time ps (step_seek o ps v).places
  unfolding step_seek
  kept-seek none h = kept-start v.start (fails-none v.stream ps h)
  kept-seek (some i) h =
      kept_step i _ _ h.inside (inl h.passes) (inl (not-both d v.stream (get_or ps i empty) foreign h.passes))

  kept-anonymous : (b : Bool) → Kept d v.time ps (step_anonymous b ps v).places
  unfolding step_anonymous
  kept-anonymous true = still refl
  kept-anonymous false = kept-seek (seek (holds v.stream) ps) (seek-spec (holds v.stream) ps)

pub others-kept : (u : Setup) (d : Stream) (ps : Places) (r : Reception) → Sole ps → of_stream d r.arrival.frame ≡ false
    → Kept d r.arrival.frame.time ps (step u ps r).places
unfolding step parsed step_checked
others-kept u d ps r sole foreign = go (check u r) refl
  where
    apart : check u r ≡ none → same_stream (parsed u r.arrival).stream d ≡ false
    apart e =
        let k : ltb r.arrival.frame.id (2 ^ 29) ≡ true = lt-ltb r.arrival.frame.id (2 ^ 29) (leb-false (2 ^ 29) r.arrival.frame.id (accepted u r.arrival (checked u r e)).id) in
        rw k at foreign

    go : (o : Option ℕ) → check u r ≡ o → Kept d r.arrival.frame.time ps (step_checked o (is_anonymous r.arrival.frame.id) ps (parsed u r.arrival)).places
    go none e = kept-anonymous d ps (parsed u r.arrival) sole (apart e) (is_anonymous r.arrival.frame.id)
    go (some n) e = still refl

-- ── no step gives a stream a second session ──

module _ (ps : Places) (v : Parsed) (sole : Sole ps) where
  sole-new : (o : Option ℕ) → FoundPlace v.time ps o → sessions_of v.stream ps ≡ [] → Sole (step_new o ps v).places
  unfolding step_new
  sole-new none h e = sole
  sole-new (some i) h e = sole-at ps i (fresh v) [] v h.0 (inr e) sole

  sole-start : (b : Bool) → sessions_of v.stream ps ≡ [] → Sole (step_start b ps v).places
  unfolding step_start
  sole-start true e = sole-new (place_for v.time ps) (place-spec v.time ps) e
  sole-start false e = sole

  sole-seek : (o : Option ℕ) → Found (holds v.stream) ps o → Sole (step_seek o ps v).places
  unfolding step_seek
  sole-seek none h = sole-start v.start (fails-none v.stream ps h)
  sole-seek (some i) h = sole-at ps i _ _ v h.inside (inl h.passes) sole

  sole-anonymous : (b : Bool) → Sole (step_anonymous b ps v).places
  unfolding step_anonymous
  sole-anonymous true = sole
  sole-anonymous false = sole-seek (seek (holds v.stream) ps) (seek-spec (holds v.stream) ps)

  sole-checked : (o : Option ℕ) (b : Bool) → Sole (step_checked o b ps v).places
  unfolding step_checked
  sole-checked none b = sole-anonymous b
  sole-checked (some n) b = sole

pub sole-step : (u : Setup) (ps : Places) (r : Reception) → Sole ps → Sole (step u ps r).places
unfolding step
sole-step u ps r sole = sole-checked ps (parsed u r.arrival) sole (check u r) (is_anonymous r.arrival.frame.id)
