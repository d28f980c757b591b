-- One walk through a step: it leaves the table as it was, or it puts the session that the frame meets at its place.
use mathlib.Core.Path.{◌≡◌, refl, sym, ap, ◌∙◌}
use mathlib.Core.Logic.{◌⊎◌, inl, inr}
use mathlib.Core.Bool.{Bool, true, false, false≢true, and-false}
use mathlib.Core.List.{List, []}
use mathlib.Core.Option.{Option, none, some}
use Prim.Native.Nat.{ℕ, ◌≤◌, ◌<◌}
use native.Mathlib.Omega.{arith}
use lib.Dec.{eqb}
use lib.ListN.{length, get_or}
use Rattle.rules.specs.Answer.{Answer, refused, full, passed, no_transfer, handed, no_block, number_of}
use Rattle.rules.specs.BlockBounds.{bytes_in}
use Rattle.rules.specs.Blocks.{need, keeps, blocks_in, used, times, stale}
use Rattle.rules.specs.Check.{Reception, Parsed, parsed, check}
use Rattle.rules.specs.Frame.{is_anonymous}
use Rattle.rules.specs.Reception.{Step, step_at, step_new, step_start, session_in, step_seek, step_anonymous, step_checked, step}
use Rattle.rules.specs.Session.{Session, old, restarts, restarted, met, fresh}
use Rattle.rules.specs.Setup.{Setup}
use Rattle.rules.specs.Sound.{places_fit, stream_fits}
use Rattle.rules.specs.Table.{Place, empty, held, Places, seek, holds, is_free, is_old, place_for}
use Rattle.rules.specs.Tests.{pick}
use Rattle.rules.proofs.Checks.{Accepted, accepted, checked}
use Rattle.rules.proofs.Landing.{put}
use Rattle.rules.proofs.Lasting.{Fits, ParsedFits, set-fits, place-fits, at-fits, session-fits, met-fits, many-in, many-kept, met-need, met-calm, parsed-fits, stream-fits}
use Rattle.rules.proofs.Others.{FoundPlace, place-spec}
use Rattle.rules.proofs.Ranges.{Small, no-block, check-small}
use Rattle.rules.proofs.Shares.{times-take, Shared, shared-put}
use Rattle.rules.proofs.Table.{Fails, Sought, Found, seek-spec}

pub not-blocked : (a : Answer) → eqb (number_of a) 26 ≡ false → a ≡ no_block → ⊥
not-blocked a n e = false≢true (sym n ∙ ap (λ x. eqb (number_of x) 26) e)

module _ (ps : Places) (v : Parsed) where
  -- the place is the stream's; or the stream has none, and the place is empty or an old session's
  abbrev pub Mine : Place → Type 0
  Mine p = (holds v.stream p ≡ true) ⊎ (Fails (holds v.stream) ps × ((is_free p ≡ true) ⊎ (is_old v.time p ≡ true)))

  -- a session with its blocks that a frame meets at a place
  pub record Meets (i : ℕ) (s : Session) (bs : List ℕ) : Type 0 where
    pub inside : i < length ps
    pub mine : Mine (get_or ps i empty)
    -- nothing is in it that was not in the place
    pub own : (b : ℕ) → times b bs ≤ times b (blocks_in (get_or ps i empty))
    pub less : length s.gathered ≤ pick (holds v.stream (get_or ps i empty)) (bytes_in (get_or ps i empty)) 0
    pub calm : stale v.time s ≡ false
    pub fits : Fits s
    pub many : length bs ≡ need (length s.gathered)

  pub data Stepped : Step → Type 0 where
    stays : (a : Answer) → (a ≡ no_block → ⊥) → Stepped (record { answer = a; places = ps })
    meets : (i : ℕ) (s : Session) (bs : List ℕ) → Meets i s bs → ParsedFits v → stream_fits v.stream ≡ true → Stepped (step_at ps i s bs v)

  met_less : (p : Place) → length (met (session_in p v) v).gathered ≤ bytes_in p
  unfolding met restarted
  met_less empty = go (restarts (fresh v) v)
    where
      go : (b : Bool) → length (pick b (restarted (fresh v) v) (fresh v)).gathered ≤ 0
      go true = omega arith
      go false = omega arith
  met_less (held d s bs) = go (restarts s v)
    where
      go : (b : Bool) → length (pick b (restarted s v) s).gathered ≤ length s.gathered
      go true = omega arith
      go false = omega arith

  module _ (ok : places_fit ps ≡ true) (vok : ParsedFits v) (stream : stream_fits v.stream ≡ true) where
    -- a new session, and one that the table has
    pub new_meets : (i : ℕ) → FoundPlace v.time ps (some i) → Fails (holds v.stream) ps → Meets i (fresh v) []
    unfolding times
    new_meets i h f =
        record {
          inside = h.0;
          mine = inr (f, h.1);
          own = λ b. omega arith;
          less = omega arith;
          calm = and-false (old v.time (fresh v));
          fits = session-fits empty v refl vok;
          many = refl;
        }

    pub held-meets : (i : ℕ) → Sought (holds v.stream) ps i
        → Meets i (met (session_in (get_or ps i empty) v) v) (keeps (met (session_in (get_or ps i empty) v) v) (blocks_in (get_or ps i empty)))
    held-meets i h =
        let p = get_or ps i empty in
        let s = session_in p v in
        let fit = at-fits ps i ok in
        record {
          inside = h.inside;
          mine = inl h.passes;
          own = λ b. times-take b (need (length (met s v).gathered)) (blocks_in p);
          less = rw h.passes (met_less p);
          calm = met-calm s v;
          fits = met-fits s v (session-fits p v fit vok) vok;
          many = many-kept (met s v) (blocks_in p) (omega (arith, met-need s v, many-in p v fit));
        }

    new-stepped : (o : Option ℕ) → FoundPlace v.time ps o → Fails (holds v.stream) ps → Stepped (step_new o ps v)
    unfolding step_new
    new-stepped none h f = stays full (not-blocked full refl)
    new-stepped (some i) h f = meets i (fresh v) [] (new_meets i h f) vok stream

    start-stepped : (b : Bool) → Fails (holds v.stream) ps → Stepped (step_start b ps v)
    unfolding step_start
    start-stepped true f = new-stepped (place_for v.time ps) (place-spec v.time ps) f
    start-stepped false f = stays (passed no_transfer) (not-blocked (passed no_transfer) refl)

    seek-stepped : (o : Option ℕ) → Found (holds v.stream) ps o → Stepped (step_seek o ps v)
    unfolding step_seek
    seek-stepped none h = start-stepped v.start h
    seek-stepped (some i) h = meets i _ _ (held-meets i h) vok stream

  -- the table with the session put at its place
  module _ {i : ℕ} {s : Session} {bs : List ℕ} (m : Meets i s bs) where
    pub put-shared : Shared (used ps) → Shared (used (put ps i s bs v))
    put-shared sh = shared-put ps i s bs v m.inside m.own m.calm sh

    pub put-fits : places_fit ps ≡ true → stream_fits v.stream ≡ true → places_fit (put ps i s bs v) ≡ true
    put-fits ok stream = set-fits ps i (held v.stream s bs) ok (place-fits v.stream s bs stream m.fits m.many)

pub stepped : (u : Setup) (ps : Places) (r : Reception) → places_fit ps ≡ true → Stepped ps (parsed u r.arrival) (step u ps r)
unfolding step step_checked step_anonymous parsed
stepped u ps r ok = checks (check u r) refl (check-small u r)
  where
    v : Parsed
    v = parsed u r.arrival

    named : Accepted u r.arrival → (b : Bool) → is_anonymous r.arrival.frame.id ≡ b → Stepped ps v (step_anonymous b ps v)
    named a true n = stays (handed v.payload v.stream v.priority v.transfer) (not-blocked (handed v.payload v.stream v.priority v.transfer) refl)
    named a false n = seek-stepped ps v ok (parsed-fits u r.arrival a) (stream-fits u r.arrival a n) (seek (holds v.stream) ps) (seek-spec (holds v.stream) ps)

    checks : (o : Option ℕ) → check u r ≡ o → Small o → Stepped ps v (step_checked o (is_anonymous r.arrival.frame.id) ps v)
    checks (some n) e k = stays (refused n) (not-blocked (refused n) (no-block n k))
    checks none e k = named (accepted u r.arrival (checked u r e)) (is_anonymous r.arrival.frame.id) refl
