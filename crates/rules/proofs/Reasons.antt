-- Why a frame is passed over: the reasons are complete and in their order, and what is answered to a start.
use mathlib.Core.Path.{◌≡◌, refl, sym, ap, ◌∙◌, subst}
use mathlib.Core.Bool.{Bool, true, false, true≢false, false≢true, not, ◌||◌}
use mathlib.Core.List.{List, [], ◌∷◌, ◌++◌, map}
use mathlib.Core.Logic.{inl, inr}
use mathlib.Core.Option.{Option, none, some}
use mathlib.Mathlib.Data.Bool.Basic.{or-eq-false-eq-eq-false-and-eq-false as or_off}
use Prim.Native.Nat.{ℕ, ◌≤◌}
use native.Mathlib.Omega.{arith}
use lib.Dec.{eqb}
use lib.ListN.{length, get_or}
use borrow.Author.Tests.{eq-eqb, ne_eqb, le-ltb}
use Rattle.rules.specs.Answer.{Answer, Reason, no_transfer, other_interface, passed, number_of}
use Rattle.rules.specs.Blocks.{keeps, blocks_in}
use Rattle.rules.specs.Check.{Reception, Parsed, parsed, first, check}
use Rattle.rules.specs.Frame.{is_anonymous, stream_of, tail_of, is_start}
use Rattle.rules.specs.Reasons.{start_tests, other_tests, numbered, Reasons}
use Rattle.rules.specs.Reception.{step_new, step_start, session_in, step_seek, step_anonymous, step_checked, step}
use Rattle.rules.specs.Sending.{any}
use Rattle.rules.specs.Session.{Session, old, restarts, restarted, met, over_if, over, sum_ok, closing, take_end, take_long, takes, proceed_if, proceed, react, fresh}
use Rattle.rules.specs.Setup.{Setup}
use Rattle.rules.specs.Sound.{sound, places_fit}
use Rattle.rules.specs.Table.{empty, Places, seek, holds, place_for}
use Rattle.rules.specs.Tests.{pick, same_bool, is_empty}
use Rattle.rules.proofs.Checks.{accepted, checked, start-toggle}
use Rattle.rules.proofs.Landing.{answer_at}
use Rattle.rules.proofs.Lasting.{Fits, test_fits, ParsedFits, met-fits, at-fits, session-fits, parsed-fits, sound-fits}
use Rattle.rules.proofs.Own.{react-restarts, restart-other, react-stays}
use Rattle.rules.proofs.Ranges.{headed, Small, check-small}
use Rattle.rules.proofs.Takes.{Takes, unfinished, whole, too_long, bad_sum, takes-answer}

-- ── the two orders ──

start-order : (s : Session) (v : Parsed) → Fits s → v.start ≡ true → v.toggle ≡ false → numbered (over s v) ≡ first (start_tests s v)
unfolding over
start-order s v h e g =
    rw (e, g) (go (eqb v.interface s.follows) (eqb v.transfer s.expected) (is_empty s.gathered) s.toggle h.toggle)
  where
    go : (f a b c : Bool) → (not c || not b) ≡ true
        → numbered (over_if f true a b (not c)) ≡ pick (not f) (some 34) (pick (not a) (some 32) (pick (not b) (some 33) none))
    go false a b c k = refl
    go true false b c k = refl
    go true true false c k = refl
    go true true true false k = refl
    go true true true true k = absurd (false≢true k)

other-order : (s : Session) (v : Parsed) → v.start ≡ false → numbered (over s v) ≡ first (other_tests s v)
unfolding over
other-order s v e =
    rw e (go (eqb v.interface s.follows) (eqb v.transfer s.expected) (is_empty s.gathered) (same_bool v.toggle s.toggle))
  where
    go : (f a b c : Bool)
        → numbered (over_if f false a b c) ≡ pick (not f) (some 34) (pick b (some 30) (pick (not a) (some 32) (pick (not c) (some 31) none)))
    go false a b c = refl
    go true a true c = refl
    go true false false c = refl
    go true true false false = refl
    go true true false true = refl

-- ── 30: an old session, no session ──

aged : (s : Session) (v : Parsed) → old v.time s ≡ true → v.start ≡ false → (react s v).answer ≡ passed no_transfer
unfolding restarts
aged s v o e = ap (λ x. x.answer) (restart-other s v (rw o) e)

-- ── 34: a session that is not old and follows another interface ──

-- no frame that is taken is passed over
over-of : (s : Session) (v : Parsed) (r : Reason) → (proceed s v).answer ≡ passed r → over s v ≡ some r
unfolding proceed proceed_if
over-of s v r = go (over s v)
  where
    taken : {a : Answer} → Takes a → a ≡ passed r → none ≡ some r
    taken unfinished e = cc
    taken whole e = cc
    taken too_long e = cc
    taken bad_sum e = cc

    go : (o : Option Reason) → (proceed_if o s v).answer ≡ passed r → o ≡ some r
    go (some x) e = cc
    go none e = taken (takes-answer v s) e

other-interface : (s : Session) (v : Parsed) → over s v ≡ some other_interface → eqb v.interface s.follows ≡ false
unfolding over
other-interface s v e =
    go (eqb v.interface s.follows) v.start (eqb v.transfer s.expected) (is_empty s.gathered) (same_bool v.toggle s.toggle) e
  where
    go : (f b a c d : Bool) → over_if f b a c d ≡ some other_interface → f ≡ false
    go false b a c d k = refl
    go true true false c d k = cc
    go true true true false d k = cc
    go true true true true false k = cc
    go true true true true true k = cc
    go true false a true d k = cc
    go true false false false d k = cc
    go true false true false false k = cc
    go true false true false true k = cc

followed : (s : Session) (v : Parsed) → (react s v).answer ≡ passed other_interface → (old v.time s ≡ false) × (eqb v.interface s.follows ≡ false)
unfolding restarts restarted
followed s v e = go (restarts s v) refl
  where
    go : (b : Bool) → restarts s v ≡ b → (old v.time s ≡ false) × (eqb v.interface s.follows ≡ false)
    go true k =
        let q : eqb v.interface v.interface ≡ false = other-interface (restarted s v) v (over-of (restarted s v) v other_interface (ap (λ o. o.answer) (sym (react-restarts s v k)) ∙ e)) in
        absurd (true≢false (sym (eq-eqb v.interface v.interface refl) ∙ q))
    go false k = (((or_off (old v.time s) _).0 k).0, other-interface s v (over-of s v other_interface (ap (λ o. o.answer) (sym (react-stays s v k)) ∙ e)))

-- ── what is answered to a start that passed the checks ──

-- taken, refused for a full table or for want of a block, or passed over
abbrev pub sorts : ℕ → Bool
sorts n = any (map (eqb n) (0 ∷ 1 ∷ 9 ∷ 26 ∷ 32 ∷ 33 ∷ 34 ∷ []))

abbrev pub Sorted : Answer → Type 0
Sorted a = sorts (number_of a) ≡ true

module _ (v : Parsed) (st : v.start ≡ true) (tg : v.toggle ≡ false) (few : length v.payload ≤ 7) (vok : ParsedFits v) where
  sorts-closing : (b ok : Bool) (all : List ℕ) → b ≡ true → Sorted (closing b ok all v)
  unfolding closing
  sorts-closing true ok all e = refl
  sorts-closing false ok all e = absurd (true≢false (sym e))

  sorts-end : (s : Session) (all : List ℕ) (l : Bool) → Sorted (take_end l s v all).answer
  unfolding take_end
  sorts-end s all false = refl
  sorts-end s all true = sorts-closing v.start (sum_ok v.signature all) all st

  -- with nothing in hand
  sorts-taken : (s : Session) → is_empty s.gathered ≡ true → Sorted (takes s v).answer
  unfolding takes take_long
  sorts-taken s e = rw (le-ltb 514 (length all) (short s.gathered e)) (sorts-end s all v.last)
    where
      all : List ℕ
      all = s.gathered ++ v.payload

      short : (l : List ℕ) → is_empty l ≡ true → length (l ++ v.payload) ≤ 514
      short [] k = omega arith
      short (x ∷ l) k = absurd (false≢true k)

  sorts-proceed : (s : Session) → Fits s → Sorted (proceed s v).answer
  unfolding proceed proceed_if over
  sorts-proceed s h =
      subst (λ o. Sorted (proceed_if o s v).answer) (sym opens)
      (go (eqb v.interface s.follows) (eqb v.transfer s.expected) (is_empty s.gathered) refl s.toggle h.toggle)
    where
      opens : over s v ≡ over_if (eqb v.interface s.follows) true (eqb v.transfer s.expected) (is_empty s.gathered) (not s.toggle)
      opens = rw (st, tg)

      go : (f a b : Bool) → is_empty s.gathered ≡ b → (c : Bool) → (not c || not b) ≡ true → Sorted (proceed_if (over_if f true a b (not c)) s v).answer
      go false a b e c k = refl
      go true false b e c k = refl
      go true true false e c k = refl
      go true true true e false k = sorts-taken s e
      go true true true e true k = absurd (false≢true k)

  sorts-new : (ps : Places) (o : Option ℕ) → Sorted (step_new o ps v).answer
  unfolding step_new
  sorts-new ps none = refl
  sorts-new ps (some i) = answer_at ps i (fresh v) [] v Sorted refl (sorts-proceed (fresh v) (session-fits empty v refl vok))

  sorts-seek : (ps : Places) → places_fit ps ≡ true → (o : Option ℕ) → Sorted (step_seek o ps v).answer
  unfolding step_seek step_start
  sorts-seek ps h (some i) =
      let p = get_or ps i empty in
      let s = session_in p v in
      answer_at ps i (met s v) (keeps (met s v) (blocks_in p)) v Sorted refl (sorts-proceed (met s v) (met-fits s v (session-fits p v (at-fits ps i h) vok) vok))
  sorts-seek ps h none = subst (λ b. Sorted (step_start b ps v).answer) (sym st) (sorts-new ps (place_for v.time ps))

pub sorts-step : (u : Setup) (ps : Places) (r : Reception) → places_fit ps ≡ true → is_start (tail_of r.arrival.frame.bytes) ≡ true
    → check u r ≡ none → is_anonymous r.arrival.frame.id ≡ false → Sorted (step u ps r).answer
unfolding step step_checked step_anonymous parsed
sorts-step u ps r fit st e n =
    let a = accepted u r.arrival (checked u r e) in
    let v = parsed u r.arrival in
    rw (e, n)
    (sorts-seek v st (start-toggle u r.arrival (checked u r e) st) (headed u r.arrival a).1 (parsed-fits u r.arrival a) ps fit (seek (holds v.stream) ps))

-- so it is not answered 30 or 31
unsorted : (k : ℕ) → sorts k ≡ false → (n : ℕ) → sorts n ≡ true → eqb n k ≡ false
unsorted k out n is = ne_eqb n k (λ e. true≢false (sym is ∙ ap sorts e ∙ out))

abbrev Begun : Answer → Type 0
Begun a = (eqb (number_of a) 30 ≡ false) × (eqb (number_of a) 31 ≡ false)

begun : (u : Setup) (ps : Places) (r : Reception) → sound ps ≡ true → is_start (tail_of r.arrival.frame.bytes) ≡ true → Begun (step u ps r).answer
unfolding step step_checked step_anonymous
begun u ps r h st = go (check u r) refl (check-small u r) (is_anonymous r.arrival.frame.id) refl
  where
    go : (o : Option ℕ) → check u r ≡ o → Small o → (b : Bool) → is_anonymous r.arrival.frame.id ≡ b → Begun (step u ps r).answer
    go (some n) e (inl k) b q = rw e (ne_eqb n 30 (λ z. omega arith), ne_eqb n 31 (λ z. omega arith))
    go (some n) e (inr k) b q = rw e (ne_eqb n 30 (λ z. omega arith), ne_eqb n 31 (λ z. omega arith))
    go none e k true q = rw (e, q) (refl, refl)
    go none e k false q =
        let a = (step u ps r).answer in
        let s = sorts-step u ps r (sound-fits ps h) st e q in
        (unsorted 30 refl (number_of a) s, unsorted 31 refl (number_of a) s)

missing : (u : Setup) (ps : Places) (r : Reception) → check u r ≡ none → is_anonymous r.arrival.frame.id ≡ false
    → seek (holds (stream_of r.arrival.frame.id)) ps ≡ none → is_start (tail_of r.arrival.frame.bytes) ≡ false
    → step u ps r ≡ record { answer = passed no_transfer; places = ps }
unfolding step step_checked step_anonymous step_seek step_start parsed
missing u ps r e n m st = rw (e, n, m, st)

pub reasons : Reasons
reasons = record { start = λ s v h. start-order s v (test_fits s h); other = other-order; aged = aged; missing = missing; followed = followed; begun = begun }
