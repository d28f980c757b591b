-- Where no block is free even after the emptying, nothing was emptied; and what else the rules of the blocks give.
use mathlib.Core.Path.{◌≡◌, refl, sym, ap, ap₂, ◌∙◌}
use mathlib.Core.Bool.{Bool, true, false, false≢true, not}
use mathlib.Core.List.{List, [], ◌∷◌, map}
use mathlib.Core.Option.{Option, none, some}
use mathlib.Mathlib.Data.Bool.Basic.{and_elim_left, and_elim_right}
use Prim.Native.Nat.{ℕ, zero, suc, ◌+◌, ◌≤◌, ◌<◌}
use native.Mathlib.Omega.{arith}
use lib.Dec.{eqb, ltb}
use lib.ListN.{length, get_or, set}
use lib.Seq.{get_or-set_same, set-set}
use borrow.Author.Tests.{eqb-true, eqb-false, ne_eqb, ltb-true, ltb-false}
use Rattle.rules.specs.Answer.{Answer, no_block, Reason, reason_number, number_of}
use Rattle.rules.specs.BlockLaws.{Accounted, OnePlace, BlockLaws}
use Rattle.rules.specs.Blocks.{need, keeps, blocks_in, used, times, lowest, free_block, stale, relieved, cleared, asks}
use Rattle.rules.specs.Check.{Reception, Parsed, parsed}
use Rattle.rules.specs.Reception.{Step, step_block, step_ask, step_at, step, after}
use Rattle.rules.specs.Session.{Session, old, over, closed, since_of, proceed_if, proceed}
use Rattle.rules.specs.Setup.{Setup}
use Rattle.rules.specs.Sound.{stream_fits, session_fits, place_fits, places_fit, sound}
use Rattle.rules.specs.Table.{Place, empty, held, Places}
use Rattle.rules.specs.Tests.{pick, is_empty, is_none}
use Rattle.rules.proofs.Counts.{free-used}
use Rattle.rules.proofs.Landing.{clearing, put, inside-in}
use Rattle.rules.proofs.Lasting.{sound-fits, sound-shared, sound-after}
use Rattle.rules.proofs.Names.{numbers}
use Rattle.rules.proofs.Ranges.{reason-range}
use Rattle.rules.proofs.Shares.{times-append, times-here, Shared, relieved-fewer, used-relieved, lowest-free}
use Rattle.rules.proofs.Takes.{Takes, unfinished, whole, too_long, bad_sum, takes-answer}
use Rattle.rules.proofs.Walk.{not-blocked, Meets, Stepped, stays, meets, put-shared, put-fits, stepped}

-- ── the lowest free block ──

all-below : (n c : ℕ) (l : List ℕ) (b : ℕ) → lowest n c l ≡ some b → (a : ℕ) → c ≤ a → a < b → 0 < times a l
unfolding lowest
all-below zero c l b e a h k = let z : ◌≡◌ {A = ℕ} 0 1 = cc in absurd (omega arith)
all-below (suc n) c l b e a h k = go (eqb (times c l) 0) refl e (λ q g. all-below n (suc c) l b q a g k)
  where
    go : (x : Bool) → eqb (times c l) 0 ≡ x → pick x (some c) (lowest n (suc c) l) ≡ some b
        → (lowest n (suc c) l ≡ some b → suc c ≤ a → 0 < times a l) → 0 < times a l
    go true q p on = let z : c ≡ b = cc in absurd (omega (arith, z, h, k))
    go false q p on = later (eqb a c) refl
      where
        later : (x : Bool) → eqb a c ≡ x → 0 < times a l
        later true y = omega (arith, ap (λ d. times d l) (eqb-true a c y), eqb-false (times c l) 0 q)
        later false y = on p (omega (arith, h, eqb-false a c y))

all-used : (n c : ℕ) (l : List ℕ) → lowest n c l ≡ none → (a : ℕ) → c ≤ a → a < n + c → 0 < times a l
unfolding lowest
all-used zero c l e a h k = absurd (omega (arith, h, k))
all-used (suc n) c l e a h k = go (eqb (times c l) 0) refl e (λ q g. all-used n (suc c) l q a g (omega (arith, k)))
  where
    go : (x : Bool) → eqb (times c l) 0 ≡ x → pick x (some c) (lowest n (suc c) l) ≡ none
        → (lowest n (suc c) l ≡ none → suc c ≤ a → 0 < times a l) → 0 < times a l
    go true q p on = let z : ◌≡◌ {A = ℕ} 0 1 = cc in absurd (omega arith)
    go false q p on = later (eqb a c) refl
      where
        later : (x : Bool) → eqb a c ≡ x → 0 < times a l
        later true y = omega (arith, ap (λ d. times d l) (eqb-true a c y), eqb-false (times c l) 0 q)
        later false y = on p (omega (arith, h, eqb-false a c y))

spent : (ps : Places) → free_block ps ≡ none → (c : ℕ) → c < 64 → 0 < times c (used ps)
unfolding free_block
spent ps e c h = all-used 64 0 (used ps) e c (omega arith) (omega (arith, h))

-- ── nothing was emptied ──

some_bytes : (l : List ℕ) → is_empty l ≡ false → 0 < length l
some_bytes [] e = absurd (false≢true (sym e))
some_bytes (b ∷ l) e = omega arith

some-times : (l : List ℕ) → 0 < length l → ((b : ℕ) → times b [] ≡ times b l) → ⊥
unfolding times
some-times [] n q = omega (arith, n)
some-times (b ∷ l) n q = omega (arith, q b, times-here b l)

-- a place that gives no block back is not emptied
same_place : (t : ℕ) (p : Place) → place_fits p ≡ true → ((b : ℕ) → times b (blocks_in (relieved t p)) ≡ times b (blocks_in p)) → relieved t p ≡ p
same_place t empty h k = refl
same_place t (held d s bs) h k = go (stale t s) refl k
  where
    many : length bs ≡ need (length s.gathered)
    many = eqb-true (length bs) (need (length s.gathered)) (and_elim_right (session_fits s) _ (and_elim_right (stream_fits d) _ h))

    nonempty : (x : Bool) → is_empty s.gathered ≡ x → stale t s ≡ true → 0 < length bs
    nonempty true e w = absurd (false≢true (ap not (sym e) ∙ and_elim_right (old t s) _ w))
    nonempty false e w = omega (arith, many, some_bytes s.gathered e)

    go : (x : Bool) → stale t s ≡ x
        → ((b : ℕ) → times b (blocks_in (pick x (held d (closed s s.since) []) (held d s bs))) ≡ times b bs)
        → pick x (held d (closed s s.since) []) (held d s bs) ≡ held d s bs
    go true w q = absurd (some-times bs (nonempty (is_empty s.gathered) refl w) q)
    go false w q = refl

same-places : (t : ℕ) (ps : Places) → places_fit ps ≡ true → ((b : ℕ) → times b (used (map (relieved t) ps)) ≡ times b (used ps)) → map (relieved t) ps ≡ ps
unfolding used
same-places t [] h k = refl
same-places t (p ∷ ps) h k =
    ap₂ (λ (x : Place) (xs : Places). x ∷ xs)
    (same_place t p (and_elim_left _ _ h)
    (λ b. omega (
      arith,
      k b,
      times-append b (blocks_in (relieved t p)) (used (map (relieved t) ps)),
      times-append b (blocks_in p) (used ps),
      relieved-fewer t b p,
      used-relieved t b ps,
    )))
    (same-places t ps (and_elim_right (place_fits p) _ h)
    (λ b. omega (
      arith,
      k b,
      times-append b (blocks_in (relieved t p)) (used (map (relieved t) ps)),
      times-append b (blocks_in p) (used ps),
      relieved-fewer t b p,
      used-relieved t b ps,
    )))

untouched-by : (t : ℕ) (ps : Places) → Shared (used ps) → places_fit ps ≡ true → free_block (cleared t ps) ≡ none → cleared t ps ≡ ps
unfolding cleared
untouched-by t ps sh fit = go (is_none (free_block ps))
  where
    go : (x : Bool) → free_block (pick x (map (relieved t) ps) ps) ≡ none → pick x (map (relieved t) ps) ps ≡ ps
    go false e = refl
    go true e = same-places t ps fit (λ b. at b (ltb b 64) refl)
      where
        at : (b : ℕ) (x : Bool) → ltb b 64 ≡ x → times b (used (map (relieved t) ps)) ≡ times b (used ps)
        at b true h = omega (arith, spent (map (relieved t) ps) e b (ltb-true b 64 h), used-relieved t b ps, sh.once b)
        at b false h = omega (arith, sh.small b (ltb-false b 64 h), used-relieved t b ps)

-- ── 26 changes one place ──

-- a session alone never answers it
proceed-not : (s : Session) (v : Parsed) → eqb (number_of (proceed s v).answer) 26 ≡ false
unfolding proceed proceed_if
proceed-not s v = go (over s v)
  where
    taken : {a : Answer} → Takes a → eqb (number_of a) 26 ≡ false
    taken unfinished = refl
    taken whole = refl
    taken too_long = refl
    taken bad_sum = refl

    go : (o : Option Reason) → eqb (number_of (proceed_if o s v).answer) 26 ≡ false
    go (some r) = ne_eqb (reason_number r) 26 (λ e. omega (arith, (reason-range r).0, e))
    go none = taken (takes-answer v s)

module _ (ps : Places) (v : Parsed) {i : ℕ} {s : Session} {bs : List ℕ} (m : Meets ps v i s bs) (sh : Shared (used ps)) where
  abbrev table : Places
  table = cleared v.time (put ps i s bs v)

  abbrev left : Place
  left = held v.stream (closed s (since_of s v)) (keeps (closed s (since_of s v)) bs)

  -- where it is answered, the frame asked and none was free
  pub want-at : (step_at ps i s bs v).answer ≡ no_block → (asks s bs v ≡ true) × (free_block table ≡ none) × ((step_at ps i s bs v).places ≡ set table i left)
  unfolding step_at step_ask step_block
  want-at = ask (asks s bs v)
    where
      block : (o : Option ℕ) → (step_block o table i s bs v).answer ≡ no_block → (o ≡ none) × ((step_block o table i s bs v).places ≡ set table i left)
      block none k = (refl, refl)
      block (some b) k = absurd (not-blocked (proceed s v).answer (proceed-not s v) k)

      ask : (b : Bool) → (step_ask b (put ps i s bs v) i s bs v).answer ≡ no_block
          → (b ≡ true) × (free_block table ≡ none) × ((step_ask b (put ps i s bs v) i s bs v).places ≡ set table i left)
      ask false k = absurd (not-blocked (proceed s v).answer (proceed-not s v) k)
      ask true k = let q = block (free_block table) k in (refl, q.0, q.1)

  module _ (ok : places_fit ps ≡ true) (stream : stream_fits v.stream ≡ true) where
    pub put-untouched : (step_at ps i s bs v).answer ≡ no_block → cleared v.time (put ps i s bs v) ≡ put ps i s bs v
    put-untouched e = untouched-by v.time (put ps i s bs v) (put-shared ps v m sh) (put-fits ps v m ok stream) (want-at e).1

    refusal-at : (step_at ps i s bs v).answer ≡ no_block → OnePlace ps (step_at ps i s bs v).places
    refusal-at e =
        let is = (want-at e).2 in
        record {
          place = i;
          is = is ∙ ap (λ k. set k i left) (put-untouched e) ∙ set-set ps i (held v.stream s bs) left
              ∙ ap (set ps i)
              (sym (ap (λ k. get_or k i empty) is ∙ get_or-set_same table i left empty (inside-in ps i s bs v m.inside (clearing v.time (put ps i s bs v)))));
        }

refusal : (u : Setup) (ps : Places) (r : Reception) → sound ps ≡ true → (step u ps r).answer ≡ no_block → OnePlace ps (step u ps r).places
refusal u ps r h = go (stepped u ps r (sound-fits ps h))
  where
    go : {x : Step} → Stepped ps (parsed u r.arrival) x → x.answer ≡ no_block → OnePlace ps x.places
    go (stays a n) e = absurd (n e)
    go (meets i s bs m vok stream) e = refusal-at ps (parsed u r.arrival) m (sound-shared ps h) (sound-fits ps h) stream e

-- ── no block is lost or shared ──

pub accounted : (ps : Places) → sound ps ≡ true → Accounted ps
accounted ps h = let sh = sound-shared ps h in record { once = sh.once; others = sh.small; count = free-used ps sh }

pub block-laws : BlockLaws
unfolding free_block
block-laws =
    record {
      lowest = λ ps b e. (
        omega (arith, (lowest-free 64 0 (used ps) b e).0),
        (lowest-free 64 0 (used ps) b e).1,
        λ c h. all-below 64 0 (used ps) b e c (omega arith) h,
      );
      spent = spent;
      untouched = λ t ps h e. untouched-by t ps (sound-shared ps h) (sound-fits ps h) e;
      refusal = refusal;
      kept = λ u ps l h. accounted (after u ps l) (sound-after u ps l h);
      numbers = numbers;
    }
