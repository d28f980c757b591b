-- Which blocks a session has is of no effect: tables that differ in the numbers of the blocks alone are answered alike, and stay such.
use mathlib.Core.Path.{◌≡◌, refl, sym, ap, ap₂, ◌∙◌, subst}
use mathlib.Core.Bool.{Bool, true, false, true≢false, false≢true, not, ◌&&◌}
use mathlib.Core.List.{List, [], ◌∷◌, ◌++◌, map}
use mathlib.Core.Option.{Option, none, some}
use Prim.Native.Nat.{ℕ, zero, suc}
use native.Mathlib.Omega.{arith}
use lib.Dec.{ltb, leb}
use lib.ListN.{length, get_or, set, get_or-map}
use Rattle.rules.specs.Answer.{Reason}
use Rattle.rules.specs.BlockBounds.{bytes_in, total}
use Rattle.rules.specs.BlockLaws.{bare}
use Rattle.rules.specs.Blocks.{need, keeps, blocks_in, used, free_block, stale, relieved, cleared, asks_if, asks}
use Rattle.rules.specs.Check.{Reception, Parsed, parsed, check}
use Rattle.rules.specs.Frame.{Stream, is_anonymous}
use Rattle.rules.specs.Reception.{Step, step_block, step_ask, step_at, step_new, step_start, session_in, step_held, step_seek, step_anonymous, step_checked, step}
use Rattle.rules.specs.Session.{Session, over, closed, since_of, met, proceed, fresh}
use Rattle.rules.specs.Setup.{Setup}
use Rattle.rules.specs.Sound.{places_fit, stream_fits, sound}
use Rattle.rules.specs.Table.{Place, empty, held, Places, plus1, seek, holds, is_free, is_old, or_else, place_for}
use Rattle.rules.specs.Tests.{pick, is_none}
use Rattle.rules.proofs.Checks.{Accepted, accepted, checked}
use Rattle.rules.proofs.Counts.{all-used, some-free, many-used}
use Rattle.rules.proofs.Landing.{clearing, put}
use Rattle.rules.proofs.Lasting.{ParsedFits, parsed-fits, stream-fits, cleared-fits, sound-fits, sound-shared}
use Rattle.rules.proofs.Others.{FoundPlace, place-spec}
use Rattle.rules.proofs.Shares.{Shared, shared-cleared}
use Rattle.rules.proofs.Table.{Fails, Found, seek-spec}
use Rattle.rules.proofs.Walk.{Meets, new_meets, held-meets, put-shared, put-fits}

abbrev Alike : Places → Places → Type 0
Alike ps qs = map bare ps ≡ map bare qs

abbrev Both : Step → Step → Type 0
Both x y = (x.answer ≡ y.answer) × Alike x.places y.places

-- ── what does not look at the numbers ──

seek-bare : (t : Place → Bool) → ((p : Place) → t (bare p) ≡ t p) → (ps : Places) → seek t (map bare ps) ≡ seek t ps
unfolding seek
seek-bare t h [] = refl
seek-bare t h (p ∷ ps) = ap₂ (λ (b : Bool) (o : Option ℕ). pick b (some 0) (plus1 o)) (h p) (seek-bare t h ps)

seek-alike : (t : Place → Bool) → ((p : Place) → t (bare p) ≡ t p) → (ps qs : Places) → Alike ps qs → seek t ps ≡ seek t qs
seek-alike t h ps qs e = sym (seek-bare t h ps) ∙ ap (seek t) e ∙ seek-bare t h qs

holds-bare : (p : Place) (v : Parsed) → holds v.stream (bare p) ≡ holds v.stream p
holds-bare empty v = refl
holds-bare (held d s bs) v = refl

place-alike : (t : ℕ) (ps qs : Places) → Alike ps qs → place_for t ps ≡ place_for t qs
unfolding place_for
place-alike t ps qs e = ap₂ or_else (seek-alike is_free free ps qs e) (seek-alike (is_old t) aged ps qs e)
  where
    free : (p : Place) → is_free (bare p) ≡ is_free p
    free empty = refl
    free (held d s bs) = refl

    aged : (p : Place) → is_old t (bare p) ≡ is_old t p
    aged empty = refl
    aged (held d s bs) = refl

at-alike : (ps qs : Places) → Alike ps qs → (i : ℕ) → bare (get_or ps i empty) ≡ bare (get_or qs i empty)
at-alike ps qs e i = sym (get_or-map bare ps i empty) ∙ ap (λ l. get_or l i empty) e ∙ get_or-map bare qs i empty

session-bare : (p : Place) (v : Parsed) → session_in (bare p) v ≡ session_in p v
session-bare empty v = refl
session-bare (held d s bs) v = refl

set-bare : (ps : Places) (i : ℕ) (q : Place) → map bare (set ps i q) ≡ set (map bare ps) i (bare q)
set-bare [] i q = refl
set-bare (p ∷ ps) zero q = refl
set-bare (p ∷ ps) (suc i) q = ap (λ l. bare p ∷ l) (set-bare ps i q)

set-alike : (ps qs : Places) → Alike ps qs → (i : ℕ) (d : Stream) (s : Session) (bs cs : List ℕ) → Alike (set ps i (held d s bs)) (set qs i (held d s cs))
set-alike ps qs e i d s bs cs = set-bare ps i (held d s bs) ∙ ap (λ l. set l i (held d s [])) e ∙ sym (set-bare qs i (held d s cs))

relieved-bare : (t : ℕ) (ps : Places) → map bare (map (relieved t) ps) ≡ map (λ p. bare (relieved t p)) (map bare ps)
relieved-bare t [] = refl
relieved-bare t (empty ∷ ps) = ap (λ l. empty ∷ l) (relieved-bare t ps)
relieved-bare t (held d s bs ∷ ps) = ap₂ (λ (p : Place) (l : Places). p ∷ l) (go (stale t s)) (relieved-bare t ps)
  where
    go : (b : Bool) → bare (pick b (held d (closed s s.since) []) (held d s bs)) ≡ bare (pick b (held d (closed s s.since) []) (held d s []))
    go true = refl
    go false = refl

need-bare : (ps : Places) → total (λ p. need (bytes_in p)) (map bare ps) ≡ total (λ p. need (bytes_in p)) ps
unfolding total
need-bare [] = refl
need-bare (empty ∷ ps) = omega (arith, need-bare ps)
need-bare (held d s bs ∷ ps) = omega (arith, need-bare ps)

-- ── is a block free ──

module _ (ps qs : Places) (e : Alike ps qs) (sp : Shared (used ps)) (sq : Shared (used qs)) (fp : places_fit ps ≡ true) (fq : places_fit qs ≡ true) where
  used-alike : length (used ps) ≡ length (used qs)
  used-alike =
      many-used ps fp ∙ sym (need-bare ps) ∙ ap (total (λ p. need (bytes_in p))) e ∙ need-bare qs ∙ sym (many-used qs fq)

  free-alike : is_none (free_block ps) ≡ is_none (free_block qs)
  free-alike = go (free_block ps) refl (free_block qs) refl
    where
      go : (a : Option ℕ) → free_block ps ≡ a → (b : Option ℕ) → free_block qs ≡ b → is_none a ≡ is_none b
      go none h none k = refl
      go (some a) h (some b) k = refl
      go none h (some b) k = absurd (omega (arith, used-alike, all-used ps sp h, some-free qs b sq k))
      go (some a) h none k = absurd (omega (arith, used-alike, some-free ps a sp h, all-used qs sq k))

  cleared-alike : (t : ℕ) → Alike (cleared t ps) (cleared t qs)
  unfolding cleared
  cleared-alike t = go (is_none (free_block ps)) (is_none (free_block qs)) free-alike
    where
      go : (a b : Bool) → a ≡ b → Alike (pick a (map (relieved t) ps) ps) (pick b (map (relieved t) qs) qs)
      go true true k = relieved-bare t ps ∙ ap (map (λ p. bare (relieved t p))) e ∙ sym (relieved-bare t qs)
      go false false k = e
      go true false k = absurd (true≢false k)
      go false true k = absurd (false≢true k)

-- ── a step ──

asks-alike : (s : Session) (bs cs : List ℕ) (v : Parsed) → length bs ≡ length cs → asks s bs v ≡ asks s cs v
unfolding asks
asks-alike s bs cs v e = go (over s v)
  where
    go : (o : Option Reason) → asks_if o s bs v ≡ asks_if o s cs v
    go (some r) = refl
    go none =
        ap (λ n. leb (length (s.gathered ++ v.payload)) 514 && (not (v.start && v.last) && ltb n (need (length (s.gathered ++ v.payload))))) e

-- two tables that are met alike
module _ (v : Parsed) (stream : stream_fits v.stream ≡ true) (ps qs : Places) (e : Alike ps qs) (sp : Shared (used ps)) (sq : Shared (used qs))
    (fp : places_fit ps ≡ true) (fq : places_fit qs ≡ true) where
  module _ (i : ℕ) (s : Session) (bs cs : List ℕ) (m : Meets ps v i s bs) (n : Meets qs v i s cs) where
    abbrev ps' : Places
    ps' = put ps i s bs v

    abbrev qs' : Places
    qs' = put qs i s cs v

    put-alike : Alike ps' qs'
    put-alike = set-alike ps qs e i v.stream s bs cs

    abbrev sp' : Shared (used ps')
    sp' = put-shared ps v m sp

    abbrev sq' : Shared (used qs')
    sq' = put-shared qs v n sq

    abbrev fp' : places_fit ps' ≡ true
    fp' = put-fits ps v m fp stream

    abbrev fq' : places_fit qs' ≡ true
    fq' = put-fits qs v n fq stream

    ready : Alike (cleared v.time ps') (cleared v.time qs')
    ready = cleared-alike ps' qs' put-alike sp' sq' fp' fq' v.time

    free-both : is_none (free_block (cleared v.time ps')) ≡ is_none (free_block (cleared v.time qs'))
    free-both =
        free-alike (cleared v.time ps') (cleared v.time qs') ready
        (shared-cleared (clearing v.time ps') sp') (shared-cleared (clearing v.time qs') sq')
        (cleared-fits (clearing v.time ps') fp') (cleared-fits (clearing v.time qs') fq')

    block-both : (a b : Option ℕ) → is_none a ≡ is_none b
        → Both (step_block a (cleared v.time ps') i s bs v) (step_block b (cleared v.time qs') i s cs v)
    unfolding step_block
    block-both none none k =
        let x = closed s (since_of s v) in
        (refl, set-alike (cleared v.time ps') (cleared v.time qs') ready i v.stream x (keeps x bs) (keeps x cs))
    block-both (some a) (some b) k =
        let x = (proceed s v).session in
        (refl, set-alike (cleared v.time ps') (cleared v.time qs') ready i v.stream x (keeps x (bs ++ (a ∷ []))) (keeps x (cs ++ (b ∷ []))))
    block-both none (some b) k = absurd (true≢false k)
    block-both (some a) none k = absurd (false≢true k)

    at_both : Both (step_at ps i s bs v) (step_at qs i s cs v)
    unfolding step_at step_ask
    at_both =
        subst (λ b. Both (step_ask (asks s bs v) ps' i s bs v) (step_ask b qs' i s cs v)) (asks-alike s bs cs v (m.many ∙ sym n.many)) (go (asks s bs v))
      where
        go : (b : Bool) → Both (step_ask b ps' i s bs v) (step_ask b qs' i s cs v)
        go false = let x = (proceed s v).session in (refl, set-alike ps' qs' put-alike i v.stream x (keeps x bs) (keeps x cs))
        go true = block-both (free_block (cleared v.time ps')) (free_block (cleared v.time qs')) free-both

  module _ (vok : ParsedFits v) where
    new-both : (o : Option ℕ) → FoundPlace v.time ps o → FoundPlace v.time qs o → Fails (holds v.stream) ps → Fails (holds v.stream) qs
        → Both (step_new o ps v) (step_new o qs v)
    unfolding step_new
    new-both none h k f g = (refl, e)
    new-both (some i) h k f g =
        at_both i (fresh v) [] [] (new_meets ps v fp vok stream i h f) (new_meets qs v fq vok stream i k g)

    start-both : (b : Bool) → Fails (holds v.stream) ps → Fails (holds v.stream) qs → Both (step_start b ps v) (step_start b qs v)
    unfolding step_start
    start-both false f g = (refl, e)
    start-both true f g =
        let o = place-alike v.time ps qs e in
        subst (λ k. Both (step_new (place_for v.time ps) ps v) (step_new k qs v)) o
        (new-both (place_for v.time ps) (place-spec v.time ps) (subst (FoundPlace v.time qs) (sym o) (place-spec v.time qs)) f g)

    seek-both : (o : Option ℕ) → Found (holds v.stream) ps o → Found (holds v.stream) qs o → Both (step_seek o ps v) (step_seek o qs v)
    unfolding step_seek
    seek-both none f g = start-both v.start f g
    seek-both (some i) h k =
        let p = get_or ps i empty in
        let q = get_or qs i empty in
        let x : session_in q v ≡ session_in p v =
        sym (session-bare q v) ∙ ap (λ b. session_in b v) (sym (at-alike ps qs e i)) ∙ session-bare p v in
        subst (λ y. Both (step_held ps i p v) (step_at qs i (met y v) (keeps (met y v) (blocks_in q)) v)) (sym x)
        (at_both i (met (session_in p v) v) (keeps (met (session_in p v) v) (blocks_in p)) (keeps (met (session_in p v) v) (blocks_in q))
        (held-meets ps v fp vok stream i h)
        (subst (λ y. Meets qs v i (met y v) (keeps (met y v) (blocks_in q))) x (held-meets qs v fq vok stream i k)))

    named-both : Both (step_seek (seek (holds v.stream) ps) ps v) (step_seek (seek (holds v.stream) qs) qs v)
    named-both =
        let o = seek-alike (holds v.stream) (λ p. holds-bare p v) ps qs e in
        subst (λ k. Both (step_seek (seek (holds v.stream) ps) ps v) (step_seek k qs v)) o
        (seek-both (seek (holds v.stream) ps) (seek-spec (holds v.stream) ps) (subst (Found (holds v.stream) qs) (sym o) (seek-spec (holds v.stream) qs)))

pub numbers : (u : Setup) (ps qs : Places) (r : Reception) → sound ps ≡ true → sound qs ≡ true → map bare ps ≡ map bare qs
    → ((step u ps r).answer ≡ (step u qs r).answer) × (map bare (step u ps r).places ≡ map bare (step u qs r).places)
unfolding step step_checked step_anonymous parsed
numbers u ps qs r h k e = checks (check u r) refl
  where
    v : Parsed
    v = parsed u r.arrival

    named : Accepted u r.arrival → (b : Bool) → is_anonymous r.arrival.frame.id ≡ b → Both (step_anonymous b ps v) (step_anonymous b qs v)
    named a true n = (refl, e)
    named a false n =
        named-both v (stream-fits u r.arrival a n) ps qs e (sound-shared ps h) (sound-shared qs k) (sound-fits ps h) (sound-fits qs k) (parsed-fits u r.arrival a)

    checks : (o : Option ℕ) → check u r ≡ o
        → Both (step_checked o (is_anonymous r.arrival.frame.id) ps v) (step_checked o (is_anonymous r.arrival.frame.id) qs v)
    checks (some n) q = (refl, e)
    checks none q = named (accepted u r.arrival (checked u r q)) (is_anonymous r.arrival.frame.id) refl
