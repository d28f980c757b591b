-- The table of places, seen from one stream: the sessions that it holds for the stream, and what a store does to them.
use mathlib.Core.Path.{◌≡◌, refl, sym, ap, ◌∙◌, subst}
use mathlib.Core.Logic.{◌⊎◌, inl, inr}
use mathlib.Core.Bool.{Bool, true, false, false≢true}
use mathlib.Core.List.{List, [], ◌∷◌, ◌++◌, cons≢nil}
use mathlib.Core.Option.{Option, none, some}
use mathlib.Mathlib.Data.Bool.Basic.{and_elim_left, and_elim_right}
use Prim.Native.Nat.{ℕ, suc, ◌<◌}
use native.Mathlib.Omega.{arith}
use lib.Dec.{eqb}
use lib.ListN.{length, get_or, take, drop, set}
use lib.Seq.{split_at, set_split}
use borrow.Author.Tests.{eqb-true, eq-eqb}
use Rattle.rules.specs.Condition3.{keep}
use Rattle.rules.specs.Frame.{Stream, same_stream}
use Rattle.rules.specs.Session.{Session}
use Rattle.rules.specs.Table.{Place, empty, held, Places, plus1, seek, holds}
use Rattle.rules.specs.Tests.{pick}

-- ── one stream ──

pub same_refl : (d : Stream) → same_stream d d ≡ true
unfolding same_stream
same_refl d =
    rw (
      eq-eqb d.transfer_type d.transfer_type refl,
      eq-eqb d.type d.type refl,
      eq-eqb d.source d.source refl,
      eq-eqb d.destination d.destination refl,
    )

pub same-eq : (a b : Stream) → same_stream a b ≡ true → a ≡ b
unfolding same_stream
same-eq a b e =
    let e2 = and_elim_right (eqb a.transfer_type b.transfer_type) _ e in
    let e3 = and_elim_right (eqb a.type b.type) _ e2 in
    let k = eqb-true a.transfer_type b.transfer_type (and_elim_left _ _ e) in
    let t = eqb-true a.type b.type (and_elim_left _ _ e2) in
    let s = eqb-true a.source b.source (and_elim_left _ _ e3) in
    let g = eqb-true a.destination b.destination (and_elim_right (eqb a.source b.source) _ e3) in
    λ i. record { transfer_type = k i; type = t i; source = s i; destination = g i }

-- ── the lowest place that passes a test ──

abbrev pub Fails : (Place → Bool) → Places → Type 0
Fails t [] = Unit {0}
Fails t (p ∷ ps) = (t p ≡ false) × Fails t ps

pub record Sought (t : Place → Bool) (ps : Places) (i : ℕ) : Type 0 where
  pub inside : i < length ps
  pub passes : t (get_or ps i empty) ≡ true

abbrev pub Found : (Place → Bool) → Places → Option ℕ → Type 0
Found t ps none = Fails t ps
Found t ps (some i) = Sought t ps i

pub seek-spec : (t : Place → Bool) (ps : Places) → Found t ps (seek t ps)
unfolding seek
seek-spec t [] = tt
seek-spec t (p ∷ ps) = here (t p) refl (seek t ps) (seek-spec t ps)
  where
    here : (b : Bool) → t p ≡ b → (o : Option ℕ) → Found t ps o → Found t (p ∷ ps) (pick b (some 0) (plus1 o))
    here true q o h = record { inside = omega arith; passes = q }
    here false q none h = (q, h)
    here false q (some i) h = record { inside = omega (arith, h.inside); passes = h.passes }

-- ── the sessions that the table holds for a stream ──

unfoldable pub sessions_of : Stream → Places → List Session
sessions_of d [] = []
sessions_of d (empty ∷ ps) = sessions_of d ps
sessions_of d (held e s bs ∷ ps) = keep (same_stream e d) s (sessions_of d ps)

sessions-append : (d : Stream) (ps qs : Places) → sessions_of d (ps ++ qs) ≡ sessions_of d ps ++ sessions_of d qs
unfolding sessions_of
sessions-append d [] qs = refl
sessions-append d (empty ∷ ps) qs = sessions-append d ps qs
sessions-append d (held e s bs ∷ ps) qs = go (same_stream e d) (sessions-append d ps qs)
  where
    go : (b : Bool) → sessions_of d (ps ++ qs) ≡ sessions_of d ps ++ sessions_of d qs
        → keep b s (sessions_of d (ps ++ qs)) ≡ keep b s (sessions_of d ps) ++ sessions_of d qs
    go true h = ap (λ l. s ∷ l) h
    go false h = h

pub not-held : (d : Stream) (p : Place) (ps : Places) → holds d p ≡ false → sessions_of d (p ∷ ps) ≡ sessions_of d ps
unfolding sessions_of
not-held d empty ps h = refl
not-held d (held e s bs) ps h = rw h

pub is_held : (d e : Stream) (s : Session) (bs : List ℕ) (ps : Places) → same_stream e d ≡ true → sessions_of d (held e s bs ∷ ps) ≡ s ∷ sessions_of d ps
unfolding sessions_of
is_held d e s bs ps h = rw h

pub fails-none : (d : Stream) (ps : Places) → Fails (holds d) ps → sessions_of d ps ≡ []
unfolding sessions_of
fails-none d [] h = refl
fails-none d (p ∷ ps) h = not-held d p ps h.0 ∙ fails-none d ps h.1

-- ── at most one ──

abbrev pub AtMostOne : List Session → Type 0
AtMostOne [] = Unit {0}
AtMostOne (x ∷ []) = Unit {0}
AtMostOne (x ∷ y ∷ l) = ⊥

unfoldable pub Sole : Places → Type 0
Sole ps = (d : Stream) → AtMostOne (sessions_of d ps)

sole-between : (x : Session) (a b : List Session) → AtMostOne (a ++ (x ∷ b)) → (a ≡ []) × (b ≡ [])
sole-between x [] [] h = (refl, refl)
sole-between x [] (y ∷ b) h = absurd h
sole-between x (y ∷ []) b h = absurd h
sole-between x (y ∷ z ∷ a) b h = absurd h

both-nil : (a b : List Session) → a ++ b ≡ [] → (a ≡ []) × (b ≡ [])
both-nil [] b e = (refl, e)
both-nil (c ∷ a) b e = absurd (cons≢nil e)

-- ── a store ──

-- the table cut at a place: what a store there leaves
record Cut (d : Stream) (ps : Places) (i : ℕ) : Type 0 where
  pub below : List Session
  pub above : Places
  pub was : sessions_of d ps ≡ below ++ sessions_of d (get_or ps i empty ∷ above)
  pub now : (q : Place) → sessions_of d (set ps i q) ≡ below ++ sessions_of d (q ∷ above)

cut : (d : Stream) (ps : Places) (i : ℕ) → i < length ps → Cut d ps i
cut d ps i h =
    record {
      below = sessions_of d (take i ps);
      above = drop (suc i) ps;
      was = ap (sessions_of d) (split_at ps i empty h) ∙ sessions-append d (take i ps) _;
      now = λ q. ap (sessions_of d) (set_split ps i q h) ∙ sessions-append d (take i ps) _;
    }

-- neither the old place nor the new one is the stream's
pub kept : (d : Stream) (ps : Places) (i : ℕ) (q : Place) → i < length ps → holds d (get_or ps i empty) ≡ false → holds d q ≡ false
    → sessions_of d (set ps i q) ≡ sessions_of d ps
kept d ps i q inside h k =
    let c = cut d ps i inside in
    c.now q ∙ ap (λ l. c.below ++ l) (not-held d q c.above k ∙ sym (not-held d (get_or ps i empty) c.above h)) ∙ sym c.was

-- the place is the stream's only one
pub record Only (d : Stream) (ps : Places) (i : ℕ) : Type 0 where
  pub holder : Session
  pub blocks : List ℕ
  pub here : get_or ps i empty ≡ held d holder blocks
  pub sole : sessions_of d ps ≡ holder ∷ []
  pub stored : (s : Session) (bs : List ℕ) → sessions_of d (set ps i (held d s bs)) ≡ s ∷ []
  pub freed : (q : Place) → holds d q ≡ false → sessions_of d (set ps i q) ≡ []

pub only : (d : Stream) (ps : Places) (i : ℕ) → Sought (holds d) ps i → AtMostOne (sessions_of d ps) → Only d ps i
only d ps i h one = at (get_or ps i empty) refl h.passes
  where
    at : (p : Place) → get_or ps i empty ≡ p → holds d p ≡ true → Only d ps i
    at empty g k = absurd (false≢true k)
    at (held e x ys) g k =
        let c = cut d ps i h.inside in
        let was : sessions_of d ps ≡ c.below ++ (x ∷ sessions_of d c.above) =
        c.was ∙ ap (λ l. c.below ++ l) (ap (λ p. sessions_of d (p ∷ c.above)) g ∙ is_held d e x ys c.above k) in
        let n = sole-between x c.below (sessions_of d c.above) (subst AtMostOne was one) in
        let alone : (s : Session) → c.below ++ (s ∷ sessions_of d c.above) ≡ s ∷ [] =
        λ s. ap (λ l. l ++ (s ∷ sessions_of d c.above)) n.0 ∙ ap (λ l. s ∷ l) n.1 in
        record {
          holder = x;
          blocks = ys;
          here = g ∙ ap (λ y. held y x ys) (same-eq e d k);
          sole = was ∙ alone x;
          stored = λ s bs. c.now (held d s bs) ∙ ap (λ l. c.below ++ l) (is_held d d s bs c.above (same_refl d)) ∙ alone s;
          freed = λ q f. c.now q ∙ ap (λ l. c.below ++ l) (not-held d q c.above f) ∙ ap (λ l. l ++ sessions_of d c.above) n.0 ∙ n.1;
        }

-- a stream that has no session gets one
new-at : (d : Stream) (ps : Places) (i : ℕ) (s : Session) (bs : List ℕ) → i < length ps → sessions_of d ps ≡ []
    → sessions_of d (set ps i (held d s bs)) ≡ s ∷ []
new-at d ps i s bs inside e = go (holds d (get_or ps i empty)) refl
  where
    c : Cut d ps i
    c = cut d ps i inside

    go : (b : Bool) → holds d (get_or ps i empty) ≡ b → sessions_of d (set ps i (held d s bs)) ≡ s ∷ []
    go true k = (only d ps i (record { inside = inside; passes = k }) (subst AtMostOne (sym e) tt)).stored s bs
    go false k =
        let n = both-nil c.below (sessions_of d c.above) (ap (λ l. c.below ++ l) (sym (not-held d (get_or ps i empty) c.above k)) ∙ sym c.was ∙ e) in
        c.now (held d s bs) ∙ ap (λ l. c.below ++ l) (is_held d d s bs c.above (same_refl d) ∙ ap (λ l. s ∷ l) n.1) ∙ ap (λ l. l ++ (s ∷ [])) n.0

-- a store for a stream e, where e has its session or has none, leaves no stream with two
pub sole-store : (ps : Places) (i : ℕ) (e : Stream) (s : Session) (bs : List ℕ) → i < length ps → (holds e (get_or ps i empty) ≡ true) ⊎ (sessions_of e ps ≡ [])
    → Sole ps → Sole (set ps i (held e s bs))
unfolding Sole
sole-store ps i e s bs inside mine sole d = go (same_stream e d) refl
  where
    theirs : (b : Bool) → holds d (get_or ps i empty) ≡ b → same_stream e d ≡ false → AtMostOne (sessions_of d (set ps i (held e s bs)))
    theirs true k f = rw ((only d ps i (record { inside = inside; passes = k }) (sole d)).freed (held e s bs) f) tt
    theirs false k f = rw (kept d ps i (held e s bs) inside k f) (sole d)

    ours : (holds e (get_or ps i empty) ≡ true) ⊎ (sessions_of e ps ≡ []) → sessions_of e (set ps i (held e s bs)) ≡ s ∷ []
    ours (inl k) = (only e ps i (record { inside = inside; passes = k }) (sole e)).stored s bs
    ours (inr k) = new-at e ps i s bs inside k

    go : (b : Bool) → same_stream e d ≡ b → AtMostOne (sessions_of d (set ps i (held e s bs)))
    go true k = subst (λ c. AtMostOne (sessions_of c (set ps i (held e s bs)))) (same-eq e d k) (rw (ours mine) tt)
    go false k = theirs (holds d (get_or ps i empty)) refl k
