-- When there is a block: 26 means that the sessions need more than the 64 blocks.
use mathlib.Core.Path.{◌≡◌, refl, sym, ap, ap₂, ◌∙◌, subst}
use mathlib.Core.Logic.{◌⊎◌, inl, inr}
use mathlib.Core.Bool.{Bool, true, false, false≢true, not, ◌&&◌, ◌||◌, and-false}
use mathlib.Core.List.{List, [], ◌∷◌, ◌++◌, map, cons≢nil}
use mathlib.Core.Option.{Option, none, some}
use mathlib.Mathlib.Data.Bool.Basic.{and_elim_left, and_elim_right, and_intro}
use Prim.Native.Nat.{ℕ, zero, suc, ◌+◌, ◌*◌, ◌≤◌, ◌<◌}
use native.Mathlib.Nat.{add-mul, mul-le-mul_right, le_trans}
use native.Mathlib.Omega.{arith}
use lib.Dec.{ltb, leb, eqb}
use lib.ListN.{length, get_or, set, length-append}
use borrow.Author.Tests.{leb-true, le-leb, ltb-true, ltb-false, ne_eqb}
use Rattle.rules.specs.Answer.{Answer, taken, handed, refused, full, passed, long, no_block, differs, Reason, reason_number, number_of}
use Rattle.rules.specs.BlockBounds.{bytes_in, total, rival, rival_need, busy, in_hand, own_need, others_need, others, small, let_in, modest, Blocked, BlockBounds}
use Rattle.rules.specs.Blocks.{need, used, free_block, stale, relieved, cleared, asks_if, asks}
use Rattle.rules.specs.Check.{Reception, Parsed, parsed}
use Rattle.rules.specs.Condition3.{keep, All, answers_to, never, rules_table}
use Rattle.rules.specs.Frame.{Frame, Stream, same_stream, stream_of}
use Rattle.rules.specs.Range.{Ranged}
use Rattle.rules.specs.Reception.{Step, step_at, step, run}
use Rattle.rules.specs.Session.{Session, old, over_if, over, closed, since_of, take_end, take_long, takes, proceed_if, proceed}
use Rattle.rules.specs.Setup.{Setup}
use Rattle.rules.specs.Sound.{stream_fits, place_fits, places_fit, sound}
use Rattle.rules.specs.Table.{Place, empty, held, Places, holds, is_free, is_old}
use Rattle.rules.specs.Tests.{pick, same_bool, is_empty, is_none}
use Rattle.rules.proofs.Counts.{all-used, many-used}
use Rattle.rules.proofs.Landing.{Cleared, untouched, eased, put, landed, answer_at, inside-in}
use Rattle.rules.proofs.Lasting.{test_fits, sound-fits, sound-shared, sound-sole, sound-size, lasting}
use Rattle.rules.proofs.Ranges.{no-block, ranges, reason-range}
use Rattle.rules.proofs.Shares.{Shared}
use Rattle.rules.proofs.Table.{same_refl, sessions_of, not-held, is_held, fails-none, AtMostOne, Sole}
use Rattle.rules.proofs.Takes.{Takes, unfinished, whole, too_long, bad_sum, takes-answer}
use Rattle.rules.proofs.Walk.{Mine, Meets, Stepped, stays, meets, put-shared, put-fits, stepped}
use Rattle.rules.proofs.Want.{want-at, put-untouched}

-- ── sums over a table ──

total-le : (f g : Place → ℕ) → ((p : Place) → f p ≤ g p) → (ps : Places) → total f ps ≤ total g ps
unfolding total
total-le f g h [] = omega arith
total-le f g h (p ∷ ps) = omega (arith, h p, total-le f g h ps)

total-add : (f g : Place → ℕ) (ps : Places) → total (λ p. f p + g p) ps ≡ total f ps + total g ps
unfolding total
total-add f g [] = refl
total-add f g (p ∷ ps) = omega (arith, total-add f g ps)

total-map : (f : Place → ℕ) (g : Place → Place) (ps : Places) → total f (map g ps) ≡ total (λ p. f (g p)) ps
unfolding total
total-map f g [] = refl
total-map f g (p ∷ ps) = ap (λ n. f (g p) + n) (total-map f g ps)

total-set : (f : Place → ℕ) (ps : Places) (i : ℕ) (q : Place) → i < length ps → total f (set ps i q) + f (get_or ps i empty) ≡ total f ps + f q
unfolding total
total-set f [] i q h = absurd (omega arith)
total-set f (p ∷ ps) zero q h = omega arith
total-set f (p ∷ ps) (suc i) q h = omega (arith, total-set f ps i q (omega (arith, h)))

total-at : (f : Place → ℕ) (ps : Places) (i : ℕ) → i < length ps → f (get_or ps i empty) ≤ total f ps
unfolding total
total-at f [] i h = absurd (omega arith)
total-at f (p ∷ ps) zero h = omega arith
total-at f (p ∷ ps) (suc i) h = omega (arith, total-at f ps i (omega (arith, h)))

total_size : (f : Place → ℕ) → ((p : Place) → f p ≤ 1) → (ps : Places) → total f ps ≤ length ps
unfolding total
total_size f h [] = omega arith
total_size f h (p ∷ ps) = omega (arith, h p, total_size f h ps)

-- each place counts at most once, and one does not
total-one : (f : Place → ℕ) → ((p : Place) → f p ≤ 1) → (ps : Places) (i : ℕ) → i < length ps → f (get_or ps i empty) ≡ 0 → total f ps + 1 ≤ length ps
unfolding total
total-one f h [] i k e = absurd (omega arith)
total-one f h (p ∷ ps) zero k e = omega (arith, e, total_size f h ps)
total-one f h (p ∷ ps) (suc i) k e = omega (arith, h p, total-one f h ps i (omega (arith, k)) e)

-- ── the places of one stream ──

module _ (d : Stream) (f : Place → ℕ) where
  abbrev mine : Place → ℕ
  mine p = pick (holds d p) (f p) 0

  total-none : (ps : Places) → sessions_of d ps ≡ [] → total mine ps ≡ 0
  unfolding total sessions_of
  total-none [] e = refl
  total-none (empty ∷ ps) e = omega (arith, total-none ps e)
  total-none (held a s bs ∷ ps) e = go (same_stream a d) e (λ k. total-none ps k)
    where
      go : (b : Bool) → keep b s (sessions_of d ps) ≡ [] → (sessions_of d ps ≡ [] → total mine ps ≡ 0) → pick b (f (held a s bs)) 0 + total mine ps ≡ 0
      go true k on = absurd (cons≢nil k)
      go false k on = omega (arith, on k)

rest-none : (x : Session) (l : List Session) → AtMostOne (x ∷ l) → l ≡ []
rest-none x [] h = refl
rest-none x (y ∷ l) h = absurd h

total-sole : (d : Stream) (f : Place → ℕ) (ps : Places) (i : ℕ) → i < length ps → holds d (get_or ps i empty) ≡ true → AtMostOne (sessions_of d ps)
    → total (mine d f) ps ≡ f (get_or ps i empty)
unfolding total
total-sole d f [] i h k one = absurd (omega arith)
total-sole d f (empty ∷ ps) zero h k one = absurd (false≢true k)
total-sole d f (held a s bs ∷ ps) zero h k one =
    rw k (omega (arith, total-none d f ps (rest-none s (sessions_of d ps) (subst AtMostOne (is_held d a s bs ps k) one))))
total-sole d f (empty ∷ ps) (suc i) h k one =
    omega (arith, total-sole d f ps i (omega (arith, h)) k (subst AtMostOne (not-held d empty ps refl) one))
total-sole d f (held a s bs ∷ ps) (suc i) h k one = go (same_stream a d) refl (λ n. total-sole d f ps i (omega (arith, h)) k n)
  where
    go : (b : Bool) → same_stream a d ≡ b → (AtMostOne (sessions_of d ps) → total (mine d f) ps ≡ f (get_or ps i empty))
        → pick (same_stream a d) (f (held a s bs)) 0 + total (mine d f) ps ≡ f (get_or ps i empty)
    go true q on =
        let z = total-none d (λ p. 1) ps (rest-none s (sessions_of d ps) (subst AtMostOne (is_held d a s bs ps q) one)) in
        let o : mine d (λ p. 1) (get_or ps i empty) ≡ 1 = rw k in
        absurd (omega (arith, z, o, total-at (mine d (λ p. 1)) ps i (omega (arith, h))))
    go false q on = rw q (omega (arith, on (subst AtMostOne (not-held d (held a s bs) ps q) one)))

-- ── what is not emptied ──

-- the blocks that a place needs once it is emptied if it is old
abbrev weight : ℕ → Place → ℕ
weight t p = need (bytes_in (relieved t p))

old-weight : (t : ℕ) (p : Place) → is_old t p ≡ true → weight t p ≡ 0
old-weight t empty h = refl
old-weight t (held e x cs) h = go (is_empty x.gathered) refl
  where
    none : (l : List ℕ) → is_empty l ≡ true → need (length l) ≡ 0
    none [] k = refl
    none (b ∷ l) k = absurd (false≢true k)

    go : (m : Bool) → is_empty x.gathered ≡ m → need (bytes_in (pick (old t x && not (is_empty x.gathered)) (held e (closed x x.since) []) (held e x cs))) ≡ 0
    go true k = rw (h, k) (none x.gathered k)
    go false k = rw (h, k)

young-weight : (t : ℕ) (p : Place) → is_old t p ≡ false → weight t p ≡ need (bytes_in p)
young-weight t empty h = refl
young-weight t (held e x cs) h = rw h

weighs : (d : Stream) (t : ℕ) (p : Place) → weight t p ≤ rival_need d t p + mine d (weight t) p
weighs d t p = go (holds d p) (is_old t p) refl
  where
    go : (b o : Bool) → is_old t p ≡ o → weight t p ≤ pick (not b && not o) (need (bytes_in p)) 0 + pick b (weight t p) 0
    go true o e = omega arith
    go false true e = omega (arith, old-weight t p e)
    go false false e = omega (arith, young-weight t p e)

-- ── what 26 means ──

asked : (s : Session) (bs : List ℕ) (v : Parsed) → asks s bs v ≡ true
    → (over s v ≡ none) × (length (s.gathered ++ v.payload) ≤ 514) × (length bs < need (length (s.gathered ++ v.payload)))
unfolding asks
asked s bs v = go (over s v)
  where
    all : List ℕ
    all = s.gathered ++ v.payload

    go : (o : Option Reason) → asks_if o s bs v ≡ true → (o ≡ none) × (length all ≤ 514) × (length bs < need (length all))
    go (some r) h = absurd (false≢true h)
    go none h = (
      refl,
      leb-true (length all) 514 (and_elim_left _ _ h),
      ltb-true (length bs) (need (length all)) (and_elim_right (not (v.start && v.last)) _ (and_elim_right (leb (length all) 514) _ h)),
    )

-- a start is let in where nothing is in hand
let-in : (s : Session) (v : Parsed) → over s v ≡ none → length s.gathered ≤ pick v.start 0 (length s.gathered)
unfolding over
let-in s v e = go v.start (eqb v.interface s.follows) (eqb v.transfer s.expected) s.gathered (same_bool v.toggle s.toggle) e
  where
    go : (b f a : Bool) (l : List ℕ) (c : Bool) → over_if f b a (is_empty l) c ≡ none → length l ≤ pick b 0 (length l)
    go false f a l c k = omega arith
    go true f a [] c k = omega arith
    go true false a (x ∷ l) c k = let z : ◌≡◌ {A = ℕ} 0 1 = cc in absurd (omega arith)
    go true true false (x ∷ l) c k = let z : ◌≡◌ {A = ℕ} 0 1 = cc in absurd (omega arith)
    go true true true (x ∷ l) c k = let z : ◌≡◌ {A = ℕ} 0 1 = cc in absurd (omega arith)

-- the bytes that a stream's session has with a frame
abbrev with : Places → Parsed → ℕ
with ps v = pick v.start 0 (in_hand v.stream ps) + length v.payload

with-most : (ps : Places) (v : Parsed) (s : Session) → length s.gathered ≤ in_hand v.stream ps → over s v ≡ none
    → length (s.gathered ++ v.payload) ≤ with ps v
with-most ps v s h e = omega (arith, length-append s.gathered v.payload, go v.start (let-in s v e))
  where
    go : (b : Bool) → length s.gathered ≤ pick b 0 (length s.gathered) → length s.gathered ≤ pick b 0 (in_hand v.stream ps)
    go true k = k
    go false k = h

-- a frame that is answered 26: the place of its session, and the bytes that this would have
record Wanting (ps : Places) (v : Parsed) : Type 0 where
  pub place : ℕ
  pub inside : place < length ps
  pub idle : busy v.stream v.time (get_or ps place empty) ≡ 0
  pub bytes : ℕ
  pub fits : bytes ≤ 514
  pub own : bytes ≤ with ps v
  pub more : 64 < total (rival_need v.stream v.time) ps + need bytes

module _ (ps : Places) (v : Parsed) {i : ℕ} {s : Session} {bs : List ℕ} (m : Meets ps v i s bs) (sole : Sole ps) where
  abbrev at : Place
  at = get_or ps i empty

  -- of the places of the stream only this one weighs
  mine-weight : total (mine v.stream (weight v.time)) ps ≡ weight v.time at
  unfolding Sole
  mine-weight = go m.mine
    where
      light : (p : Place) → (is_free p ≡ true) ⊎ (is_old v.time p ≡ true) → weight v.time p ≡ 0
      light empty h = refl
      light (held e x cs) (inl h) = absurd (false≢true h)
      light (held e x cs) (inr h) = old-weight v.time (held e x cs) h

      go : Mine ps v at → total (mine v.stream (weight v.time)) ps ≡ weight v.time at
      go (inl h) = total-sole v.stream (weight v.time) ps i m.inside h (sole v.stream)
      go (inr h) = total-none v.stream (weight v.time) ps (fails-none v.stream ps h.0) ∙ sym (light at h.1)

  -- what the session has in hand, the stream has
  own-bytes : length s.gathered ≤ in_hand v.stream ps
  own-bytes = omega (arith, m.less, total-at (mine v.stream bytes_in) ps i m.inside)

  idle-at : busy v.stream v.time at ≡ 0
  idle-at = go m.mine
    where
      light : (p : Place) → (is_free p ≡ true) ⊎ (is_old v.time p ≡ true) → busy v.stream v.time p ≡ 0
      light empty h = refl
      light (held e x cs) (inl h) = absurd (false≢true h)
      light (held e x cs) (inr h) = rw (h, and-false (not (same_stream e v.stream)))

      go : Mine ps v at → busy v.stream v.time at ≡ 0
      go (inl h) = rw h
      go (inr h) = light at h.1

  module _ (sh : Shared (used ps)) (ok : places_fit ps ≡ true) (stream : stream_fits v.stream ≡ true) (e : (step_at ps i s bs v).answer ≡ no_block) where
    abbrev laid : Places
    laid = put ps i s bs v

    none_free : free_block laid ≡ none
    none_free = ap free_block (sym (put-untouched ps v m sh ok stream e)) ∙ (want-at ps v m sh e).1

    none-emptied : map (relieved v.time) laid ≡ laid
    unfolding cleared
    none-emptied = sym (ap (λ o. pick (is_none o) (map (relieved v.time) laid) laid) none_free) ∙ put-untouched ps v m sh ok stream e

    all-weight : total (weight v.time) laid ≡ 64
    all-weight =
        sym (total-map (λ p. need (bytes_in p)) (relieved v.time) laid) ∙ ap (total (λ p. need (bytes_in p))) none-emptied
        ∙ sym (many-used laid (put-fits ps v m ok stream)) ∙ all-used laid (put-shared ps v m sh) none_free

    own-weight : weight v.time (held v.stream s bs) ≡ need (length s.gathered)
    own-weight = ap (λ b. need (bytes_in (pick b (held v.stream (closed s s.since) []) (held v.stream s bs)))) m.calm

    wanting : Wanting ps v
    wanting =
        let a = asked s bs v (want-at ps v m sh e).0 in
        let d = v.stream in
        let w = weight v.time in
        record {
          place = i;
          inside = m.inside;
          idle = idle-at;
          bytes = length (s.gathered ++ v.payload);
          fits = a.1;
          own = with-most ps v s own-bytes a.0;
          more =
              omega (
                arith,
                all-weight,
                total-set w ps i (held d s bs) m.inside,
                own-weight,
                mine-weight,
                total-le w (λ p. rival_need d v.time p + mine d w p) (weighs d v.time) ps,
                total-add (rival_need d v.time) (mine d w) ps,
                a.2,
                m.many,
              );
        }

wants : (u : Setup) (ps : Places) (r : Reception) → sound ps ≡ true → Blocked u ps r → Wanting ps (parsed u r.arrival)
wants u ps r h = go (stepped u ps r (sound-fits ps h))
  where
    go : {x : Step} → Stepped ps (parsed u r.arrival) x → x.answer ≡ no_block → Wanting ps (parsed u r.arrival)
    go (stays a n) e = absurd (n e)
    go (meets i s bs m vok stream) e = wanting ps (parsed u r.arrival) m (sound-sole ps h) (sound-shared ps h) (sound-fits ps h) stream e

-- ── the bounds ──

need-most : (k : ℕ) (d : Stream) (t : ℕ) (ps : Places) → small k ps ≡ true → total (rival_need d t) ps ≤ total (busy d t) ps * k
unfolding total
need-most k d t [] h = omega arith
need-most k d t (p ∷ ps) h =
    omega (
      arith,
      add-mul (busy d t p) (total (busy d t) ps) k,
      here (rival d t p) (ltb 0 (bytes_in p)) refl,
      need-most k d t ps (and_elim_right (leb (need (bytes_in p)) k) _ h),
    )
  where
    most : need (bytes_in p) ≤ k
    most = leb-true (need (bytes_in p)) k (and_elim_left _ _ h)

    here : (b c : Bool) → ltb 0 (bytes_in p) ≡ c → pick b (need (bytes_in p)) 0 ≤ pick (b && c) 1 0 * k
    here false c e = omega arith
    here true true e = omega (arith, most)
    here true false e = omega (arith, ltb-false 0 (bytes_in p) e)

all_small : (ps : Places) → places_fit ps ≡ true → small 9 ps ≡ true
all_small [] h = refl
all_small (p ∷ ps) h = and_intro (le-leb (need (bytes_in p)) 9 (here p (and_elim_left _ _ h))) (all_small ps (and_elim_right (place_fits p) _ h))
  where
    here : (p : Place) → place_fits p ≡ true → need (bytes_in p) ≤ 9
    here empty k = omega arith
    here (held d s bs) k = omega (arith, (test_fits s (and_elim_left _ _ (and_elim_right (stream_fits d) _ k))).size)

want : (u : Setup) (ps : Places) (r : Reception) → sound ps ≡ true → Blocked u ps r → 64 < others_need ps r + own_need ps r
unfolding parsed
want u ps r h e = let w = wants u ps r h e in omega (arith, w.more, w.own)

few : (u : Setup) (ps : Places) (r : Reception) → sound ps ≡ true → others ps r ≤ 6 → Blocked u ps r → ⊥
unfolding parsed
few u ps r h n e =
    let w = wants u ps r h e in
    let v = parsed u r.arrival in
    omega (arith, n, w.more, w.fits, need-most 9 v.stream v.time ps (all_small ps (sound-fits ps h)))

alike : (k : ℕ) (u : Setup) (ps : Places) (r : Reception) → sound ps ≡ true → small k ps ≡ true → own_need ps r ≤ k
    → (others ps r + 1) * k ≤ 64 → Blocked u ps r → ⊥
unfolding parsed
alike k u ps r h s own n e =
    let w = wants u ps r h e in
    let v = parsed u r.arrival in
    omega (arith, own, n, w.more, w.own, add-mul (others ps r) 1 k, need-most k v.stream v.time ps s)

-- ── a list of receptions ──

module _ (k : ℕ) where
  abbrev Light : Place → Type 0
  Light p = need (bytes_in p) ≤ k

  small-set : (ps : Places) (i : ℕ) (q : Place) → small k ps ≡ true → Light q → small k (set ps i q) ≡ true
  small-set [] i q h n = refl
  small-set (p ∷ ps) zero q h n = and_intro (le-leb (need (bytes_in q)) k n) (and_elim_right (leb (need (bytes_in p)) k) _ h)
  small-set (p ∷ ps) (suc i) q h n = and_intro (and_elim_left (leb (need (bytes_in p)) k) (small k ps) h) (small-set ps i q (and_elim_right (leb (need (bytes_in p)) k) _ h) n)

  small-relieved : (t : ℕ) (ps : Places) → small k ps ≡ true → small k (map (relieved t) ps) ≡ true
  small-relieved t [] h = refl
  small-relieved t (p ∷ ps) h =
      and_intro (le-leb (weight t p) k (here (is_old t p) refl)) (small-relieved t ps (and_elim_right (leb (need (bytes_in p)) k) _ h))
    where
      light : Light p
      light = leb-true (need (bytes_in p)) k (and_elim_left _ _ h)

      here : (b : Bool) → is_old t p ≡ b → weight t p ≤ k
      here true e = omega (arith, old-weight t p e)
      here false e = omega (arith, young-weight t p e, light)

  small-cleared : {t : ℕ} {ps qs : Places} → Cleared t ps qs → small k ps ≡ true → small k qs ≡ true
  small-cleared (untouched e) h = ap (small k) e ∙ h
  small-cleared {t} {ps} (eased e) h = ap (small k) e ∙ small-relieved t ps h

  small_at : (ps : Places) (i : ℕ) → small k ps ≡ true → i < length ps → Light (get_or ps i empty)
  small_at [] i h n = absurd (omega arith)
  small_at (p ∷ ps) zero h n = leb-true (need (bytes_in p)) k (and_elim_left _ _ h)
  small_at (p ∷ ps) (suc i) h n = small_at ps i (and_elim_right (leb (need (bytes_in p)) k) _ h) (omega (arith, n))

  -- a session that is passed by keeps what it had, and one that lets the frame in has no more than both
  proceed-most : (s : Session) (v : Parsed) → need (length s.gathered) ≤ k → (over s v ≡ none → need (length (s.gathered ++ v.payload)) ≤ k)
      → need (length (proceed s v).session.gathered) ≤ k
  unfolding proceed proceed_if takes take_long take_end
  proceed-most s v had with = go (over s v) with
    where
      all : List ℕ
      all = s.gathered ++ v.payload

      end : (b : Bool) → need (length all) ≤ k → need (length (take_end b s v all).session.gathered) ≤ k
      end true n = omega arith
      end false n = n

      long : (b : Bool) → need (length all) ≤ k → need (length (take_long b s v all).session.gathered) ≤ k
      long true n = omega arith
      long false n = end v.last n

      go : (o : Option Reason) → (o ≡ none → need (length all) ≤ k) → need (length (proceed_if o s v).session.gathered) ≤ k
      go (some r) n = had
      go none n = long (ltb 514 (length all)) (n refl)

  abbrev LetIn : Answer → Type 0
  LetIn a = let_in (number_of a) ≡ true

  -- a frame that is not passed over is let in
  let-in-at : (ps : Places) (i : ℕ) (s : Session) (bs : List ℕ) (v : Parsed) → over s v ≡ none → LetIn (step_at ps i s bs v).answer
  unfolding proceed proceed_if
  let-in-at ps i s bs v e = answer_at ps i s bs v LetIn refl (subst (λ o. LetIn (proceed_if o s v).answer) (sym e) (taken (takes-answer v s)))
    where
      taken : {a : Answer} → Takes a → LetIn a
      taken unfinished = refl
      taken whole = refl
      taken too_long = refl
      taken bad_sum = refl

  small-step : (u : Setup) (ps : Places) (r : Reception) → sound ps ≡ true → small k ps ≡ true → (LetIn (step u ps r).answer → own_need ps r ≤ k)
      → small k (step u ps r).places ≡ true
  unfolding parsed
  small-step u ps r h c own = go (stepped u ps r (sound-fits ps h)) own
    where
      v : Parsed
      v = parsed u r.arrival

      go : {x : Step} → Stepped ps v x → (LetIn x.answer → need (with ps v) ≤ k) → small k x.places ≡ true
      go (stays a n) own = c
      go (meets i s bs m vok stream) own =
          let l = landed ps i s bs v in
          let less : length s.gathered ≤ bytes_in (get_or ps i empty) = some_of (holds v.stream (get_or ps i empty)) m.less in
          let had : need (length s.gathered) ≤ k = omega (arith, less, small_at ps i c m.inside) in
          ap (small k) l.is
          ∙ small-set l.table i (held v.stream l.session l.blocks)
          (small-cleared l.clear (small-set ps i (held v.stream s bs) c had))
          (ends l.either had
          (λ e. omega (arith, with-most ps v s (own-bytes ps v m (sound-sole ps h)) e, own (let-in-at ps i s bs v e))))
        where
          some_of : {n j : ℕ} (b : Bool) → n ≤ pick b j 0 → n ≤ j
          some_of true h = h
          some_of false h = omega arith

          ends : {x : Session} → (x ≡ closed s (since_of s v)) ⊎ (x ≡ (proceed s v).session) → need (length s.gathered) ≤ k
              → (over s v ≡ none → need (length (s.gathered ++ v.payload)) ≤ k) → need (length x.gathered) ≤ k
          ends (inl e) had n = omega (arith, ap (λ x. length x.gathered) e)
          ends (inr e) had n = omega (arith, ap (λ x. length x.gathered) e, proceed-most s v had n)

  module _ (most : 32 * k ≤ 64) where
    -- one place is the stream's or nobody's, so that 31 at most are others'
    ever-one : (u : Setup) (ps : Places) (r : Reception) → sound ps ≡ true → small k ps ≡ true → own_need ps r ≤ k → Blocked u ps r → ⊥
    unfolding parsed
    ever-one u ps r h c own e =
        let w = wants u ps r h e in
        let v = parsed u r.arrival in
        let n = total-one (busy v.stream v.time) (λ p. flag (rival v.stream v.time p && ltb 0 (bytes_in p))) ps w.place w.inside w.idle in
        alike k u ps r h c own (le_trans (mul-le-mul_right k (omega (arith, n, sound-size ps h))) most) e
      where
        flag : (b : Bool) → pick {A = ℕ} b 1 0 ≤ 1
        flag true = omega arith
        flag false = omega arith

    ever : (u : Setup) (ps : Places) (l : List Reception) → sound ps ≡ true → small k ps ≡ true → modest k u ps l ≡ true → All (λ a. a ≡ no_block → ⊥) (run u ps l)
    unfolding run
    ever u ps [] h c m = tt
    ever u ps (r ∷ rs) h c m = (
      λ e. ever-one u ps r h c (own (ap (λ a. let_in (number_of a)) e)) e,
      ever u (step u ps r).places rs (lasting.reception u ps r h) (small-step u ps r h c own) (and_elim_right (not (let_in (number_of (step u ps r).answer)) || leb (own_need ps r) k) _ m),
    )
      where
        own : LetIn (step u ps r).answer → own_need ps r ≤ k
        own l =
            let q : (not (let_in (number_of (step u ps r).answer)) || leb (own_need ps r) k) ≡ true = and_elim_left _ _ m in
            leb-true (own_need ps r) k (rw l at q)

-- ── frames of one stream at one time ──

relieved-rival : (d : Stream) (t : ℕ) (p : Place) → rival_need d t (relieved t p) ≤ rival_need d t p
relieved-rival d t empty = omega arith
relieved-rival d t (held e x cs) = go (stale t x)
  where
    zero-need : (c : Bool) → pick {A = ℕ} c (need 0) 0 ≡ 0
    zero-need true = refl
    zero-need false = refl

    go : (b : Bool) → rival_need d t (pick b (held e (closed x x.since) []) (held e x cs)) ≤ rival_need d t (held e x cs)
    go false = omega arith
    go true = omega (arith, zero-need (not (same_stream e d) && not (old t x)))

own-rival : (d : Stream) (t : ℕ) (s : Session) (bs : List ℕ) → rival_need d t (held d s bs) ≡ 0
own-rival d t s bs = rw (same_refl d)

rival-cleared : {t : ℕ} {ps qs : Places} (d : Stream) → Cleared t ps qs → total (rival_need d t) qs ≤ total (rival_need d t) ps
rival-cleared {t} d (untouched e) = omega (arith, ap (total (rival_need d t)) e)
rival-cleared {t} {ps} d (eased e) =
    omega (
      arith,
      ap (total (rival_need d t)) e,
      total-map (rival_need d t) (relieved t) ps,
      total-le (λ p. rival_need d t (relieved t p)) (rival_need d t) (relieved-rival d t) ps,
    )

-- what the others need does not grow
rival-step : (u : Setup) (ps : Places) (r : Reception) → sound ps ≡ true → others_need (step u ps r).places r ≤ others_need ps r
unfolding parsed
rival-step u ps r h = go (stepped u ps r (sound-fits ps h))
  where
    v : Parsed
    v = parsed u r.arrival

    f : Place → ℕ
    f = rival_need v.stream v.time

    go : {x : Step} → Stepped ps v x → total f x.places ≤ total f ps
    go (stays a n) = omega arith
    go (meets i s bs m vok stream) =
        let l = landed ps i s bs v in
        omega (
          arith,
          ap (total f) l.is,
          total-set f l.table i (held v.stream l.session l.blocks) (inside-in ps i s bs v m.inside l.clear),
          own-rival v.stream v.time l.session l.blocks,
          rival-cleared v.stream l.clear,
          total-set f ps i (held v.stream s bs) m.inside,
          own-rival v.stream v.time s bs,
        )

room-one : (u : Setup) (ps : Places) (r : Reception) → sound ps ≡ true → others_need ps r ≤ 55 → Blocked u ps r → ⊥
unfolding parsed
room-one u ps r h n e = let w = wants u ps r h e in omega (arith, n, w.more, w.fits)

pub record At (d : Stream) (t : ℕ) (r : Reception) : Type 0 where
  pub stream : stream_of r.arrival.frame.id ≡ d
  pub time : r.arrival.frame.time ≡ t

at-need : {d : Stream} {t : ℕ} (ps : Places) (r : Reception) → At d t r → others_need ps r ≡ total (rival_need d t) ps
at-need ps r a = ap₂ (λ (d : Stream) (t : ℕ). total (rival_need d t) ps) a.stream a.time

pub still-room : (u : Setup) (d : Stream) (t : ℕ) (ps : Places) (r : Reception) → sound ps ≡ true → At d t r
    → total (rival_need d t) ps ≤ 55 → total (rival_need d t) (step u ps r).places ≤ 55
still-room u d t ps r h a n = omega (arith, n, at-need ps r a, at-need (step u ps r).places r a, rival-step u ps r h)

-- so where nine blocks are left none of these frames is answered 26
answer-is : (a : Answer) → Ranged a → (a ≡ no_block → ⊥) → eqb (number_of a) 26 ≡ false
answer-is taken r n = refl
answer-is (handed p d priority t) r n = refl
answer-is (refused k) r n = no-block k r
answer-is full r n = refl
answer-is (passed x) r n = ne_eqb (reason_number x) 26 (λ e. omega (arith, (reason-range x).0, e))
answer-is long r n = refl
answer-is no_block r n = absurd (n refl)
answer-is differs r n = refl

pub all-served : (u : Setup) (d : Stream) (t : ℕ) (test : Frame → Bool) (ps : Places) (l : List Reception) → sound ps ≡ true → All (At d t) l
    → total (rival_need d t) ps ≤ 55 → never (rules_table u) 26 (answers_to (rules_table u) test ps l) ≡ true
unfolding answers_to
all-served u d t test ps [] h a n = refl
all-served u d t test ps (r ∷ rs) h a n =
    go (test r.arrival.frame) (all-served u d t test (step u ps r).places rs (lasting.reception u ps r h) a.1 (still-room u d t ps r h a.0 n))
  where
    here : eqb (number_of (step u ps r).answer) 26 ≡ false
    here = answer-is (step u ps r).answer (ranges u ps r) (λ e. room-one u ps r h (omega (arith, n, at-need ps r a.0)) e)

    go : (b : Bool) → never (rules_table u) 26 (answers_to (rules_table u) test (step u ps r).places rs) ≡ true
        → never (rules_table u) 26 (keep b (step u ps r).answer (answers_to (rules_table u) test (step u ps r).places rs)) ≡ true
    go true k = and_intro (ap not here) k
    go false k = k

pub block-bounds : BlockBounds
block-bounds = record { want = want; few = few; alike = alike; ever = ever }
