-- Old sessions with bytes in hand emptied, place by place.
use mathlib.Core.Path.{◌≡◌, refl, sym, ap, ap₂, subst, ◌∙◌}
use mathlib.Core.Bool.{Bool, true, false}
use mathlib.Core.List.{List, [], ◌∷◌, map}
use Prim.Native.Nat.{ℕ, zero, suc, ◌≤◌, ◌<◌}
use native.Mathlib.Omega.{arith}
use borrow.Author.Tests.{ltb-true, ltb-false}
use lib.Dec.{ltb}
use lib.ListN.{length, get_or, set}
use Rattle.bits.specs.Order.{Octets}
use Rattle.blocks.proofs.Stores.{There}
use Rattle.rules.proofs.Lasting.{at-fits, closed-fits, place-fits, test_fits}
use Rattle.rules.proofs.Shares.{relieved-fewer}
use Rattle.rules.specs.Blocks.{blocks_in, times, stale, relieved}
use Rattle.rules.specs.Limits.{sessions_max}
use Rattle.rules.specs.Session.{closed}
use Rattle.rules.specs.Sound.{stream_fits, session_fits, place_fits}
use Rattle.rules.specs.Table.{Place, empty, held, Places}
use Rattle.rules.specs.Tests.{pick}
use Rattle.state.proofs.Bools.{and_left, and_right}
use Rattle.state.proofs.Good.{Timed, AllTimed, Good, good-table, good-set, good-view, view-place, view-written, ready-written}
use Rattle.state.proofs.Table.{Settled, stays, idle, written_over, place_of, length-places}
use Rattle.state.specs.Layout.{place_at, places_of}
use Rattle.state.specs.Place.{place_stores, written}
use Rattle.state.specs.inside.Ready.{Ready}

-- the first n places relieved
unfoldable pub eased_to : ℕ → ℕ → Places → Places
eased_to t zero ps = ps
eased_to t (suc n) [] = []
eased_to t (suc n) (p ∷ ps) = relieved t p ∷ eased_to t n ps

pub eased-all : (t : ℕ) (ps : Places) → eased_to t (length ps) ps ≡ map (relieved t) ps
unfolding eased_to
eased-all t [] = refl
eased-all t (p ∷ ps) = ap (λ (x : Places). relieved t p ∷ x) (eased-all t ps)

-- those before n are relieved, those from n on are as they were
pub eased-before : (t n l : ℕ) (ps : Places) → l < n → get_or (eased_to t n ps) l empty ≡ relieved t (get_or ps l empty)
unfolding eased_to
eased-before t zero l ps h = absurd (omega arith)
eased-before t (suc n) l [] h = refl
eased-before t (suc n) zero (p ∷ ps) h = refl
eased-before t (suc n) (suc l) (p ∷ ps) h = eased-before t n l ps (omega arith)

pub eased-behind : (t n l : ℕ) (ps : Places) → n ≤ l → get_or (eased_to t n ps) l empty ≡ get_or ps l empty
unfolding eased_to
eased-behind t zero l ps h = refl
eased-behind t (suc n) l [] h = refl
eased-behind t (suc n) zero (p ∷ ps) h = absurd (omega arith)
eased-behind t (suc n) (suc l) (p ∷ ps) h = eased-behind t n l ps (omega arith)

pub eased-more : (t n : ℕ) (ps : Places) → n < length ps → set (eased_to t n ps) n (relieved t (get_or ps n empty)) ≡ eased_to t (suc n) ps
unfolding eased_to
eased-more t n [] h = absurd (omega arith)
eased-more t zero (p ∷ ps) h = refl
eased-more t (suc n) (p ∷ ps) h = ap (λ (x : Places). relieved t p ∷ x) (eased-more t n ps (omega arith))

timed-at : (ps : Places) (l : ℕ) → AllTimed ps → Timed (get_or ps l empty)
timed-at [] l h = tt
timed-at (p ∷ ps) zero h = h.0
timed-at (p ∷ ps) (suc l) h = timed-at ps l h.1

relieved-timed : (t : ℕ) (p : Place) → Timed p → Timed (relieved t p)
relieved-timed t empty h = tt
relieved-timed t (held d s bs) h = go (stale t s)
  where
    go : (b : Bool) → Timed (pick b (held d (closed s s.since) []) (held d s bs))
    go true = h
    go false = h

relieved-fit : (t : ℕ) (p : Place) → place_fits p ≡ true → place_fits (relieved t p) ≡ true
relieved-fit t empty h = refl
relieved-fit t (held d s bs) h = go (stale t s)
  where
    go : (b : Bool) → place_fits (pick b (held d (closed s s.since) []) (held d s bs)) ≡ true
    go true =
        place-fits d (closed s s.since) [] (and_left (stream_fits d) _ h)
        (closed-fits s s.since (test_fits s (and_left (session_fits s) _ (and_right (stream_fits d) _ h))).follows) refl
    go false = h

module _ (t : ℕ) (ps : Places) (g : Good ps) where
  pub good-eased : (n : ℕ) → n ≤ sessions_max → Good (eased_to t n ps)
  unfolding eased_to
  good-eased zero h = g
  good-eased (suc n) h =
      let q = good-eased n (omega arith) in
      let e = eased-behind t n n ps (omega arith) in
      subst Good (eased-more t n ps (omega (arith, g.whole)))
      (good-set (eased_to t n ps) n (relieved t (get_or ps n empty)) q (omega arith)
      (relieved-fit t (get_or ps n empty) (at-fits ps n g.fit)) (relieved-timed t (get_or ps n empty) (timed-at ps n g.timed))
      (λ b. omega (arith, relieved-fewer t b (get_or ps n empty), ap (λ (p : Place). times b (blocks_in p)) e)))

module _ (m : List ℕ) (r : Ready m) (bytes : Octets m) (t : ℕ) where
  abbrev ps : Places
  ps = places_of m

  pub good : Good ps
  good = good-view m r bytes

  pub there : (l : ℕ) → l < sessions_max → (q : Place) → Settled m l (get_or ps l empty) q
  there l h q = stays (subst (λ (p : Place). There m (place_stores l p)) (sym (place_of m l h)) (view-place m r bytes l h))

  -- a place that is relieved, and then stays so
  pub eased-there : (l : ℕ) → l < sessions_max → (p : Place) → p ≡ get_or ps l empty → Settled m l (relieved t p) (relieved t p)
  eased-there l h empty e = subst (λ (x : Place). Settled m l x empty) (sym e) (there l h empty)
  eased-there l h (held d s bs) e = go (stale t s)
    where
      go : (b : Bool) → Settled m l (pick b (held d (closed s s.since) []) (held d s bs)) (pick b (held d (closed s s.since) []) (held d s bs))
      go true = idle d d (closed s s.since) (closed s s.since) [] refl refl
      go false = subst (λ (x : Place). Settled m l x (held d s bs)) (sym e) (there l h (held d s bs))

  -- one place more
  pub one_more : (n : ℕ) → n < sessions_max → (m' : List ℕ) → m' ≡ written m (eased_to t n ps)
      → written m' (set (places_of m') n (relieved t (place_at m' n))) ≡ written m (eased_to t (suc n) ps)
  one_more n h m' e =
      let q = good-eased t ps good n (omega arith) in
      let v : places_of m' ≡ eased_to t n ps = ap places_of e ∙ view-written m (eased_to t n ps) r.long q in
      let w : place_at m' n ≡ get_or ps n empty = sym (place_of m' n h) ∙ ap (λ (x : Places). get_or x n empty) v ∙ eased-behind t n n ps (omega arith) in
      ap₂ (λ (x : Places) (y : Place). written m' (set x n (relieved t y))) v w ∙ ap (written m') (eased-more t n ps (omega (arith, h, good.whole)))
      ∙ ap (λ (x : List ℕ). written x (eased_to t (suc n) ps)) e
      ∙ written_over m (eased_to t n ps) (eased_to t (suc n) ps) r.long (good-table (eased_to t n ps) q) (good-table (eased_to t (suc n) ps) (good-eased t ps good (suc n) (omega arith)))
      (λ l k. settle l k (ltb l n) refl)
    where
      settle : (l : ℕ) → l < sessions_max → (b : Bool) → ltb l n ≡ b → Settled m l (get_or (eased_to t n ps) l empty) (get_or (eased_to t (suc n) ps) l empty)
      settle l k true z =
          let a = ltb-true l n z in
          subst (λ (x : Place). Settled m l x (get_or (eased_to t (suc n) ps) l empty)) (sym (eased-before t n l ps a))
          (subst (λ (y : Place). Settled m l (relieved t (get_or ps l empty)) y) (sym (eased-before t (suc n) l ps (omega arith))) (eased-there l k (get_or ps l empty) refl))
      settle l k false z =
          subst (λ (x : Place). Settled m l x (get_or (eased_to t (suc n) ps) l empty)) (sym (eased-behind t n l ps (ltb-false l n z))) (there l k (get_or (eased_to t (suc n) ps) l empty))

  pub eased-ready : (n : ℕ) → n ≤ sessions_max → (m' : List ℕ) → m' ≡ written m (eased_to t n ps) → Ready m'
  eased-ready n h m' e = subst Ready (sym e) (ready-written m (eased_to t n ps) r.long (good-eased t ps good n h))

  pub eased-whole : (m' : List ℕ) → m' ≡ written m (eased_to t sessions_max ps) → m' ≡ written m (map (relieved t) ps)
  eased-whole m' e = e ∙ ap (λ (n : ℕ). written m (eased_to t n ps)) (sym (length-places m)) ∙ ap (written m) (eased-all t ps)

  back : (m' : List ℕ) → m' ≡ written m (map (relieved t) ps) → m' ≡ written m (eased_to t sessions_max ps)
  back m' e = e ∙ ap (written m) (sym (eased-all t ps)) ∙ ap (λ (n : ℕ). written m (eased_to t n ps)) (length-places m)

  pub map-ready : (m' : List ℕ) → m' ≡ written m (map (relieved t) ps) → Ready m'
  map-ready m' e = eased-ready sessions_max (omega arith) m' (back m' e)

  pub map-good : Good (map (relieved t) ps)
  map-good = subst Good (ap (λ (n : ℕ). eased_to t n ps) (sym (length-places m)) ∙ eased-all t ps) (good-eased t ps good sessions_max (omega arith))

  pub map-view : (m' : List ℕ) → m' ≡ written m (map (relieved t) ps) → places_of m' ≡ map (relieved t) ps
  map-view m' e = ap places_of e ∙ view-written m (map (relieved t) ps) r.long map-good
