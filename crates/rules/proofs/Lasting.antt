-- A table without a fault stays one: every step keeps the ranges and the number of places, and no two places come to hold one stream.
use mathlib.Core.Path.{◌≡◌, refl, ap, ◌∙◌, subst}
use mathlib.Core.Bool.{Bool, true, false, not, ◌&&◌, ◌||◌, or-true, and-false}
use mathlib.Core.List.{List, [], ◌∷◌, ◌++◌, map}
use mathlib.Core.Option.{Option, none, some}
use mathlib.Mathlib.Data.Bool.Basic.{and_elim_left, and_elim_right, and_intro, or-eq-false-eq-eq-false-and-eq-false as or_off}
use Prim.Native.Nat.{ℕ, zero, suc, ◌+◌, ◌-◌, ◌/◌, ◌%◌, ◌≤◌, ◌<◌}
use native.Mathlib.Omega.{arith}
use lib.Dec.{ltb, leb, eqb}
use lib.ListN.{length, get_or, take, set, length-set, length-append, length-take}
use lib.Seq.{length-take-le}
use borrow.Author.Tests.{eqb-true, eq-eqb, eqb-false, ltb-true, ltb-false, lt-ltb, leb-true, le-leb, not-true}
use Rattle.rules.specs.Answer.{Reason}
use Rattle.rules.specs.Blocks.{need, keeps, blocks_in, used, times, free_block, stale, relieved, cleared, asks_if, asks}
use Rattle.rules.specs.Check.{Reception, Parsed, parsed, bad_tail, check}
use Rattle.rules.specs.Condition3.{keep}
use Rattle.rules.specs.Frame.{Arrival, Stream, same_stream, is_service, source_of, destination_of, is_anonymous, stream_if, stream_of, tail_of, is_start, is_end, toggle_of}
use Rattle.rules.specs.Reception.{step_block, step_ask, step_at, step_new, step_start, session_in, step_held, step_seek, step_anonymous, step_checked, step, after}
use Rattle.rules.specs.Session.{Session, next, old, restarts, restarted, met, over, closed, since_of, take_end, take_long, takes, proceed_if, proceed, fresh}
use Rattle.rules.specs.Setup.{Setup}
use Rattle.rules.specs.Sound.{message_fits, stream_fits, session_fits, place_fits, places_fit, none_holds, not_again, apart, blocks_fit, sound, Lasting}
use Rattle.rules.specs.Table.{Place, empty, held, Places, seek, holds, place_for}
use Rattle.rules.specs.Tests.{pick, bit, is_empty}
use Rattle.rules.proofs.Checks.{Accepted, accepted, checked, both-named}
use Rattle.rules.proofs.Landing.{Cleared, untouched, eased, clearing, length-cleared, put, landed}
use Rattle.rules.proofs.Others.{FoundPlace, place-spec, sole-step}
use Rattle.rules.proofs.Shares.{times-take, Shared, fit-shared, shared-fit, shared_at}
use Rattle.rules.proofs.Table.{same_refl, same-eq, Found, seek-spec, sessions_of, not-held, is_held, AtMostOne, Sole}

-- ── no two places hold one stream ──

none-held : (d : Stream) (ps : Places) → none_holds d ps ≡ true → sessions_of d ps ≡ []
unfolding sessions_of
none-held d [] h = refl
none-held d (p ∷ ps) h =
    not-held d p ps (not-true (holds d p) (and_elim_left _ _ h)) ∙ none-held d ps (and_elim_right (not (holds d p)) _ h)

pub apart-sole : (ps : Places) → apart ps ≡ true → Sole ps
unfolding Sole sessions_of
apart-sole [] h d = tt
apart-sole (empty ∷ ps) h d = apart-sole ps h d
apart-sole (held e s bs ∷ ps) h d = go (same_stream e d) refl (apart-sole ps (and_elim_right (none_holds e ps) _ h) d)
  where
    go : (b : Bool) → same_stream e d ≡ b → AtMostOne (sessions_of d ps) → AtMostOne (keep b s (sessions_of d ps))
    go true k m = rw (none-held d ps (subst (λ c. none_holds c ps ≡ true) (same-eq e d k) (and_elim_left _ _ h))) tt
    go false k m = m

held_none : (d : Stream) (ps : Places) → sessions_of d ps ≡ [] → none_holds d ps ≡ true
unfolding sessions_of
held_none d [] e = refl
held_none d (empty ∷ ps) e = held_none d ps e
held_none d (held c s bs ∷ ps) e = go (same_stream c d) refl e (λ k. held_none d ps k)
  where
    go : (b : Bool) → same_stream c d ≡ b → keep b s (sessions_of d ps) ≡ [] → (sessions_of d ps ≡ [] → none_holds d ps ≡ true)
        → (not b && none_holds d ps) ≡ true
    go true k q h = let z : ◌≡◌ {A = ℕ} 0 1 = cc in absurd (omega arith)
    go false k q h = h q

rest-alone : (s : Session) (l : List Session) → AtMostOne (s ∷ l) → l ≡ []
rest-alone s [] k = refl
rest-alone s (x ∷ l) k = absurd k

sole-rest : (p : Place) (ps : Places) → Sole (p ∷ ps) → Sole ps
unfolding Sole sessions_of
sole-rest empty ps h d = h d
sole-rest (held c s bs) ps h d = go (same_stream c d) (h d)
  where
    go : (b : Bool) → AtMostOne (keep b s (sessions_of d ps)) → AtMostOne (sessions_of d ps)
    go true k = rw (rest-alone s (sessions_of d ps) k) tt
    go false k = k

sole-first : (p : Place) (ps : Places) → Sole (p ∷ ps) → not_again p ps ≡ true
unfolding Sole
sole-first empty ps h = refl
sole-first (held c s bs) ps h = held_none c ps (rest-alone s (sessions_of c ps) (subst AtMostOne (is_held c c s bs ps (same_refl c)) (h c)))

sole-apart : (ps : Places) → Sole ps → apart ps ≡ true
sole-apart [] h = refl
sole-apart (p ∷ ps) h = and_intro (sole-first p ps h) (sole-apart ps (sole-rest p ps h))

-- ── one session ──

pub record Fits (s : Session) : Type 0 where
  pub expected : s.expected < 32
  pub follows : s.follows < 3
  pub size : length s.gathered ≤ 514
  pub toggle : (not s.toggle || not (is_empty s.gathered)) ≡ true

pub fits-test : (s : Session) → Fits s → session_fits s ≡ true
unfolding session_fits
fits-test s h =
    and_intro (and_intro (lt-ltb s.expected 32 h.expected) (lt-ltb s.follows 3 h.follows))
    (and_intro (le-leb (length s.gathered) 514 h.size) h.toggle)

pub test_fits : (s : Session) → session_fits s ≡ true → Fits s
unfolding session_fits
test_fits s h =
    let j = and_elim_left (ltb s.expected 32 && ltb s.follows 3) _ h in
    let k = and_elim_right (ltb s.expected 32 && ltb s.follows 3) _ h in
    record {
      expected = ltb-true s.expected 32 (and_elim_left _ _ j);
      follows = ltb-true s.follows 3 (and_elim_right (ltb s.expected 32) _ j);
      size = leb-true (length s.gathered) 514 (and_elim_left _ _ k);
      toggle = and_elim_right (leb (length s.gathered) 514) _ k;
    }

-- what is in range in a frame that passed the checks
pub record ParsedFits (v : Parsed) : Type 0 where
  pub transfer : v.transfer < 32
  pub interface : v.interface < 3
  pub whole : v.last ≡ false → is_empty v.payload ≡ false
  pub short : length v.payload ≤ 7

append-some : (a b : List ℕ) → is_empty b ≡ false → is_empty (a ++ b) ≡ false
append-some [] b e = e
append-some (x ∷ a) b e = refl

restarted-fits : (s : Session) (v : Parsed) → ParsedFits v → Fits (restarted s v)
unfolding restarted
restarted-fits s v h = record { expected = go v.start; follows = h.interface; size = omega arith; toggle = refl }
  where
    go : (b : Bool) → pick b v.transfer (next v.transfer) < 32
    go true = h.transfer
    go false = omega arith

pub closed-fits : (s : Session) (t : ℕ) → s.follows < 3 → Fits (closed s t)
closed-fits s t h = record { expected = omega arith; follows = h; size = omega arith; toggle = refl }

module _ (s : Session) (v : Parsed) (ok : Fits s) (vok : ParsedFits v) where
  end_fits : (b : Bool) → v.last ≡ b → length (s.gathered ++ v.payload) ≤ 514 → Fits (take_end b s v (s.gathered ++ v.payload)).session
  unfolding take_end
  end_fits true e h = closed-fits s (since_of s v) ok.follows
  end_fits false e h =
      record {
        expected = ok.expected;
        follows = ok.follows;
        size = h;
        toggle = rw (append-some s.gathered v.payload (vok.whole e)) (or-true (not (not s.toggle)));
      }

  long-fits : (b : Bool) → ltb 514 (length (s.gathered ++ v.payload)) ≡ b → Fits (take_long b s v (s.gathered ++ v.payload)).session
  unfolding take_long
  long-fits true e = closed-fits s (since_of s v) ok.follows
  long-fits false e = end_fits v.last refl (ltb-false 514 (length (s.gathered ++ v.payload)) e)

  proceed-fits : Fits (proceed s v).session
  unfolding proceed proceed_if takes
  proceed-fits = go (over s v)
    where
      go : (o : Option Reason) → Fits (proceed_if o s v).session
      go (some r) = ok
      go none = long-fits (ltb 514 (length (s.gathered ++ v.payload))) refl

pub met-fits : (s : Session) (v : Parsed) → Fits s → ParsedFits v → Fits (met s v)
unfolding met
met-fits s v ok vok = go (restarts s v)
  where
    go : (b : Bool) → Fits (pick b (restarted s v) s)
    go true = restarted-fits s v vok
    go false = ok

-- ── the table ──

pub set-fits : (ps : Places) (i : ℕ) (q : Place) → places_fit ps ≡ true → place_fits q ≡ true → places_fit (set ps i q) ≡ true
set-fits [] i q h k = refl
set-fits (p ∷ ps) zero q h k = and_intro k (and_elim_right (place_fits p) _ h)
set-fits (p ∷ ps) (suc i) q h k = and_intro (and_elim_left (place_fits p) _ h) (set-fits ps i q (and_elim_right (place_fits p) _ h) k)

pub at-fits : (ps : Places) (i : ℕ) → places_fit ps ≡ true → place_fits (get_or ps i empty) ≡ true
at-fits [] i h = refl
at-fits (p ∷ ps) zero h = and_elim_left _ _ h
at-fits (p ∷ ps) (suc i) h = at-fits ps i (and_elim_right (place_fits p) _ h)

pub session-fits : (p : Place) (v : Parsed) → place_fits p ≡ true → ParsedFits v → Fits (session_in p v)
session-fits empty v h vok = record { expected = vok.transfer; follows = vok.interface; size = omega arith; toggle = refl }
session-fits (held e s bs) v h vok = test_fits s (and_elim_left _ _ (and_elim_right (stream_fits e) _ h))

-- the blocks of a place are as many as its bytes need
pub many-in : (p : Place) (v : Parsed) → place_fits p ≡ true → length (blocks_in p) ≡ need (length (session_in p v).gathered)
many-in empty v h = refl
many-in (held e s bs) v h =
    eqb-true (length bs) (need (length s.gathered)) (and_elim_right (session_fits s) _ (and_elim_right (stream_fits e) _ h))

pub many-kept : (s : Session) (bs : List ℕ) → need (length s.gathered) ≤ length bs → length (keeps s bs) ≡ need (length s.gathered)
many-kept s bs h = length-take-le (need (length s.gathered)) bs h

-- a restart needs none
pub met-need : (s : Session) (v : Parsed) → need (length (met s v).gathered) ≤ need (length s.gathered)
unfolding met restarted
met-need s v = go (restarts s v)
  where
    go : (b : Bool) → need (length (pick b (restarted s v) s).gathered) ≤ need (length s.gathered)
    go true = omega arith
    go false = omega arith

-- a frame that asks for no block needs none, and one block is enough for every frame
module _ (s : Session) (bs : List ℕ) (v : Parsed) (many : length bs ≡ need (length s.gathered)) where
  abbrev all : List ℕ
  all = s.gathered ++ v.payload

  unasked : asks s bs v ≡ false → need (length (proceed s v).session.gathered) ≤ length bs
  unfolding asks proceed proceed_if takes take_long take_end
  unasked h = go (over s v) h
    where
      end : (b : Bool) → v.last ≡ b → length all ≤ 514 → asks_if none s bs v ≡ false → need (length (take_end b s v all).session.gathered) ≤ length bs
      end true e k a = omega arith
      end false e k a =
          ltb-false (length bs) (need (length all)) (rw (le-leb (length all) 514 k, e, and-false v.start) at a)

      long : (b : Bool) → ltb 514 (length all) ≡ b → asks_if none s bs v ≡ false → need (length (take_long b s v all).session.gathered) ≤ length bs
      long true e a = omega arith
      long false e a = end v.last refl (ltb-false 514 (length all) e) a

      go : (o : Option Reason) → asks_if o s bs v ≡ false → need (length (proceed_if o s v).session.gathered) ≤ length bs
      go (some r) a = omega (arith, many)
      go none a = long (ltb 514 (length all)) refl a

  one-enough : length v.payload ≤ 7 → need (length (proceed s v).session.gathered) ≤ length bs + 1
  unfolding proceed proceed_if takes take_long take_end
  one-enough short = go (over s v)
    where
      end : (b : Bool) → need (length (take_end b s v all).session.gathered) ≤ length bs + 1
      end true = omega arith
      end false = omega (arith, many, length-append s.gathered v.payload, short)

      long : (b : Bool) → need (length (take_long b s v all).session.gathered) ≤ length bs + 1
      long true = omega arith
      long false = end v.last

      go : (o : Option Reason) → need (length (proceed_if o s v).session.gathered) ≤ length bs + 1
      go (some r) = omega (arith, many)
      go none = long (ltb 514 (length all))

pub place-fits : (d : Stream) (s : Session) (bs : List ℕ) → stream_fits d ≡ true → Fits s → length bs ≡ need (length s.gathered) → place_fits (held d s bs) ≡ true
place-fits d s bs h k e = and_intro h (and_intro (fits-test s k) (eq-eqb (length bs) (need (length s.gathered)) e))

pub relieved-fits : (t : ℕ) (ps : Places) → places_fit ps ≡ true → places_fit (map (relieved t) ps) ≡ true
relieved-fits t [] h = refl
relieved-fits t (p ∷ ps) h = and_intro (one p (and_elim_left _ _ h)) (relieved-fits t ps (and_elim_right (place_fits p) _ h))
  where
    one : (p : Place) → place_fits p ≡ true → place_fits (relieved t p) ≡ true
    one empty k = refl
    one (held d s bs) k = go (stale t s)
      where
        go : (b : Bool) → place_fits (pick b (held d (closed s s.since) []) (held d s bs)) ≡ true
        go true =
            place-fits d (closed s s.since) [] (and_elim_left _ _ k)
            (closed-fits s s.since (test_fits s (and_elim_left _ _ (and_elim_right (stream_fits d) _ k))).follows) refl
        go false = k

pub cleared-fits : {t : ℕ} {ps qs : Places} → Cleared t ps qs → places_fit ps ≡ true → places_fit qs ≡ true
cleared-fits (untouched e) h = ap places_fit e ∙ h
cleared-fits {t} {ps} (eased e) h = ap places_fit e ∙ relieved-fits t ps h

module _ (ps : Places) (v : Parsed) (ok : places_fit ps ≡ true) (vok : ParsedFits v) (stream : stream_fits v.stream ≡ true) where
  pub fits-at : (i : ℕ) (s : Session) (bs : List ℕ) → Fits s → length bs ≡ need (length s.gathered) → places_fit (step_at ps i s bs v).places ≡ true
  unfolding step_at step_ask step_block
  fits-at i s bs h many = ask (asks s bs v) refl
    where
      ready : places_fit (put ps i s bs v) ≡ true
      ready = set-fits ps i (held v.stream s bs) ok (place-fits v.stream s bs stream h many)

      table : Places
      table = cleared v.time (put ps i s bs v)

      stored : (qs : Places) → places_fit qs ≡ true → (x : Session) → Fits x → (cs : List ℕ) → need (length x.gathered) ≤ length cs
          → places_fit (set qs i (held v.stream x (keeps x cs))) ≡ true
      stored qs q x f cs n = set-fits qs i (held v.stream x (keeps x cs)) q (place-fits v.stream x (keeps x cs) stream f (many-kept x cs n))

      block : (o : Option ℕ) → places_fit (step_block o table i s bs v).places ≡ true
      block none =
          stored table (cleared-fits (clearing v.time (put ps i s bs v)) ready) (closed s (since_of s v)) (closed-fits s (since_of s v) h.follows) bs (omega arith)
      block (some b) =
          stored table (cleared-fits (clearing v.time (put ps i s bs v)) ready) (proceed s v).session (proceed-fits s v h vok) (bs ++ (b ∷ []))
          (omega (arith, one-enough s bs v many vok.short, length-append bs (b ∷ [])))

      ask : (b : Bool) → asks s bs v ≡ b → places_fit (step_ask b (put ps i s bs v) i s bs v).places ≡ true
      ask false e = stored (put ps i s bs v) ready (proceed s v).session (proceed-fits s v h vok) bs (unasked s bs v many e)
      ask true e = block (free_block table)

  new-fits : (o : Option ℕ) → places_fit (step_new o ps v).places ≡ true
  unfolding step_new
  new-fits none = ok
  new-fits (some i) = fits-at i (fresh v) [] (session-fits empty v refl vok) refl

  start_fits : (b : Bool) → places_fit (step_start b ps v).places ≡ true
  unfolding step_start
  start_fits true = new-fits (place_for v.time ps)
  start_fits false = ok

  held_fits : (i : ℕ) (p : Place) → place_fits p ≡ true → places_fit (step_held ps i p v).places ≡ true
  held_fits i p h =
      let s = session_in p v in
      fits-at i (met s v) (keeps (met s v) (blocks_in p)) (met-fits s v (session-fits p v h vok) vok)
      (many-kept (met s v) (blocks_in p) (omega (arith, met-need s v, many-in p v h)))

  seek-fits : (o : Option ℕ) → places_fit (step_seek o ps v).places ≡ true
  unfolding step_seek
  seek-fits none = start_fits v.start
  seek-fits (some i) = held_fits i (get_or ps i empty) (at-fits ps i ok)

anonymous-fits : (ps : Places) (v : Parsed) (b : Bool) → places_fit ps ≡ true → ParsedFits v → (b ≡ false → stream_fits v.stream ≡ true)
    → places_fit (step_anonymous b ps v).places ≡ true
unfolding step_anonymous
anonymous-fits ps v true ok vok stream = ok
anonymous-fits ps v false ok vok stream = seek-fits ps v ok vok (stream refl) (seek (holds v.stream) ps)

-- ── no block comes to be in two sessions ──

-- what a frame meets is not old, or has nothing in hand
pub met-calm : (s : Session) (v : Parsed) → stale v.time (met s v) ≡ false
unfolding met restarted restarts
met-calm s v = go (restarts s v) refl
  where
    not-old : (b c : Bool) → (b || c) ≡ false → b ≡ false
    not-old false c k = refl
    not-old true c k = k

    go : (b : Bool) → restarts s v ≡ b → stale v.time (pick b (restarted s v) s) ≡ false
    go true e = and-false (old v.time s)
    go false e = rw (not-old (old v.time s) _ e)

module _ (ps : Places) (v : Parsed) (ok : Shared (used ps)) where
  new-shared : (o : Option ℕ) → FoundPlace v.time ps o → Shared (used (step_new o ps v).places)
  unfolding step_new times
  new-shared none h = ok
  new-shared (some i) h = shared_at ps i (fresh v) [] v h.0 (λ b. omega arith) (and-false (old v.time (fresh v))) ok

  start-shared : (b : Bool) → Shared (used (step_start b ps v).places)
  unfolding step_start
  start-shared true = new-shared (place_for v.time ps) (place-spec v.time ps)
  start-shared false = ok

  seek-shared : (o : Option ℕ) → Found (holds v.stream) ps o → Shared (used (step_seek o ps v).places)
  unfolding step_seek
  seek-shared none h = start-shared v.start
  seek-shared (some i) h =
      let p = get_or ps i empty in
      let m = met (session_in p v) v in
      shared_at ps i m (keeps m (blocks_in p)) v h.inside (λ b. times-take b (need (length m.gathered)) (blocks_in p)) (met-calm (session_in p v) v) ok

  anonymous-shared : (b : Bool) → Shared (used (step_anonymous b ps v).places)
  unfolding step_anonymous
  anonymous-shared true = ok
  anonymous-shared false = seek-shared (seek (holds v.stream) ps) (seek-spec (holds v.stream) ps)

  checked-shared : (o : Option ℕ) (b : Bool) → Shared (used (step_checked o b ps v).places)
  unfolding step_checked
  checked-shared none b = anonymous-shared b
  checked-shared (some n) b = ok

shared_step : (u : Setup) (ps : Places) (r : Reception) → Shared (used ps) → Shared (used (step u ps r).places)
unfolding step
shared_step u ps r ok = checked-shared ps (parsed u r.arrival) ok (check u r) (is_anonymous r.arrival.frame.id)

-- ── what an accepted frame says is in range ──

message-fits : (id : ℕ) → (source_of id ≡ 0 → ⊥) → stream_fits (stream_if false id) ≡ true
unfolding stream_fits
message-fits id h =
    rw (lt-ltb 0 (source_of id) (omega arith), lt-ltb (source_of id) 128 (omega arith)) (go (eqb (source_of id) 0))
  where
    go : (b : Bool) → (ltb (pick b (id / 256 % 4) (id / 256 % 65536)) 65536 && true) ≡ true
    go true = rw (lt-ltb (id / 256 % 4) 65536 (omega arith))
    go false = rw (lt-ltb (id / 256 % 65536) 65536 (omega arith))

service-fits : (id : ℕ) → (source_of id ≡ 0 → ⊥) → (destination_of id ≡ 0 → ⊥) → stream_fits (stream_if true id) ≡ true
unfolding stream_fits
service-fits id h k =
    rw (
      lt-ltb 0 (source_of id) (omega arith),
      lt-ltb (source_of id) 128 (omega arith),
      lt-ltb (id / 65536 % 256) 256 (omega arith),
      lt-ltb 0 (destination_of id) (omega arith),
      lt-ltb (destination_of id) 128 (omega arith),
    )
    (go (bit id 32768))
  where
    go : (b : Bool) → (ltb (pick {A = ℕ} b 1 2) 3 && pick (eqb (pick {A = ℕ} b 1 2) 0) (message_fits (stream_if true id)) true) ≡ true
    go true = refl
    go false = refl

pub stream-fits : (u : Setup) (f : Arrival) → Accepted u f → is_anonymous f.frame.id ≡ false → stream_fits (stream_of f.frame.id) ≡ true
unfolding stream_of
stream-fits u f a n = go (is_service f.frame.id) refl
  where
    go : (b : Bool) → is_service f.frame.id ≡ b → stream_fits (stream_if b f.frame.id) ≡ true
    go true k =
        let q = both-named f.frame.id k a.service in
        let z = (or_off _ _).0 q in
        service-fits f.frame.id (eqb-false (source_of f.frame.id) 0 z.0) (eqb-false (destination_of f.frame.id) 0 z.1)
    go false k = message-fits f.frame.id (eqb-false (source_of f.frame.id) 0 (rw k at n))

take-some : (n : ℕ) (l : List ℕ) → 0 < n → 0 < length l → is_empty (take n l) ≡ false
take-some zero l h k = absurd (omega arith)
take-some (suc n) [] h k = absurd (omega arith)
take-some (suc n) (x ∷ l) h k = refl

-- a frame that is no end has eight bytes
whole : (anonymous start last toggle : Bool) (n : ℕ) → bad_tail anonymous start last toggle n ≡ false → last ≡ false → 8 ≤ n
whole anonymous start last toggle n e k =
    let q : (not last && ltb n 8) ≡ false =
    ((or_off (not last && ltb n 8) _).0 ((or_off (anonymous && not (start && last)) _).0 ((or_off (start && toggle) _).0 e).1).1).0 in
    ltb-false n 8 (rw k at q)

pub parsed-fits : (u : Setup) (f : Arrival) → Accepted u f → ParsedFits (parsed u f)
unfolding parsed
parsed-fits u f a =
    record {
      transfer = omega arith;
      interface = omega (arith, ltb-false 2 f.interface a.interface);
      whole = λ e.
          let n : 8 ≤ length f.frame.bytes =
          whole (is_anonymous f.frame.id) (is_start (tail_of f.frame.bytes)) (is_end (tail_of f.frame.bytes)) (toggle_of (tail_of f.frame.bytes)) (length f.frame.bytes) a.tail e in
          take-some (length f.frame.bytes - 1) f.frame.bytes (omega arith) (omega arith);
      short =
          let l = ltb-false 8 (length f.frame.bytes) ((or_off (eqb (length f.frame.bytes) 0) (ltb 8 (length f.frame.bytes))).0 a.length).1 in
          omega (arith, length-take (length f.frame.bytes - 1) f.frame.bytes, l);
    }

-- ── the step ──

fits-step : (u : Setup) (ps : Places) (r : Reception) → places_fit ps ≡ true → places_fit (step u ps r).places ≡ true
unfolding step step_checked parsed
fits-step u ps r ok = go (check u r) refl
  where
    go : (o : Option ℕ) → check u r ≡ o → places_fit (step_checked o (is_anonymous r.arrival.frame.id) ps (parsed u r.arrival)).places ≡ true
    go (some n) e = ok
    go none e =
        let a = accepted u r.arrival (checked u r e) in
        anonymous-fits ps (parsed u r.arrival) (is_anonymous r.arrival.frame.id) ok (parsed-fits u r.arrival a) (λ n. stream-fits u r.arrival a n)

size_step : (u : Setup) (ps : Places) (r : Reception) → length (step u ps r).places ≡ length ps
unfolding step step_checked step_anonymous step_seek step_start step_new
size_step u ps r = checks (check u r) (is_anonymous r.arrival.frame.id)
  where
    v : Parsed
    v = parsed u r.arrival

    at : (i : ℕ) (s : Session) (bs : List ℕ) → length (step_at ps i s bs v).places ≡ length ps
    at i s bs =
        let l = landed ps i s bs v in
        ap length l.is ∙ length-set l.table i (held v.stream l.session l.blocks) ∙ length-cleared l.clear ∙ length-set ps i (held v.stream s bs)

    new : (o : Option ℕ) → length (step_new o ps v).places ≡ length ps
    new none = refl
    new (some i) = at i (fresh v) []

    start : (b : Bool) → length (step_start b ps v).places ≡ length ps
    start true = new (place_for v.time ps)
    start false = refl

    find : (o : Option ℕ) → length (step_seek o ps v).places ≡ length ps
    find none = start v.start
    find (some i) = at i _ _

    anonymous : (b : Bool) → length (step_anonymous b ps v).places ≡ length ps
    anonymous true = refl
    anonymous false = find (seek (holds v.stream) ps)

    checks : (o : Option ℕ) (b : Bool) → length (step_checked o b ps v).places ≡ length ps
    checks none b = anonymous b
    checks (some n) b = refl

pub sound-fits : (ps : Places) → sound ps ≡ true → places_fit ps ≡ true
unfolding sound
sound-fits ps h = and_elim_left _ _ (and_elim_right (eqb (length ps) 32 && blocks_fit (used ps)) _ h)

pub sound-shared : (ps : Places) → sound ps ≡ true → Shared (used ps)
unfolding sound
sound-shared ps h = fit-shared (used ps) (and_elim_right (eqb (length ps) 32) _ (and_elim_left (eqb (length ps) 32 && blocks_fit (used ps)) _ h))

pub sound-sole : (ps : Places) → sound ps ≡ true → Sole ps
unfolding sound
sound-sole ps h = apart-sole ps (and_elim_right (places_fit ps) _ (and_elim_right (eqb (length ps) 32 && blocks_fit (used ps)) _ h))

pub sound-size : (ps : Places) → sound ps ≡ true → length ps ≡ 32
unfolding sound
sound-size ps h = eqb-true (length ps) 32 (and_elim_left _ _ (and_elim_left (eqb (length ps) 32 && blocks_fit (used ps)) _ h))

sound-step : (u : Setup) (ps : Places) (r : Reception) → sound ps ≡ true → sound (step u ps r).places ≡ true
unfolding sound
sound-step u ps r h =
    and_intro
    (and_intro (eq-eqb (length (step u ps r).places) 32 (size_step u ps r ∙ sound-size ps h))
    (shared-fit (used (step u ps r).places) (shared_step u ps r (sound-shared ps h))))
    (and_intro (fits-step u ps r (sound-fits ps h)) (sole-apart (step u ps r).places (sole-step u ps r (sound-sole ps h))))

pub sound-after : (u : Setup) (ps : Places) (l : List Reception) → sound ps ≡ true → sound (after u ps l) ≡ true
unfolding after
sound-after u ps [] h = h
sound-after u ps (r ∷ rs) h = sound-after u (step u ps r).places rs (sound-step u ps r h)

pub lasting : Lasting
unfolding sound used
lasting = record { setup = refl; reception = sound-step }
