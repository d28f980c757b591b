-- A start that is taken leaves nothing of the past: the session is as the start alone would begin it.
use mathlib.Core.Path.{◌≡◌, refl, sym, ap, ◌∙◌, subst}
use mathlib.Core.Logic.{inl, inr}
use mathlib.Core.Bool.{Bool, true, false, false≢true, true≢false}
use mathlib.Core.List.{List, [], ◌∷◌}
use mathlib.Core.Option.{Option, none, some}
use Prim.Native.Nat.{ℕ, ◌<◌}
use native.Mathlib.Omega.{arith}
use lib.Dec.{ltb, eqb}
use lib.ListN.{length, get_or}
use borrow.Author.Tests.{eqb-true, ltb-true}
use Rattle.rules.specs.Answer.{Answer, no_block, Reason, reason_number, number_of}
use Rattle.rules.specs.Blocks.{keeps, blocks_in}
use Rattle.rules.specs.Check.{Reception, Parsed, parsed, frame_check, check}
use Rattle.rules.specs.Condition3.{of_stream, took}
use Rattle.rules.specs.Frame.{Stream, stream_of, is_anonymous}
use Rattle.rules.specs.Reception.{Step, step_new, step_start, session_in, step_seek, step_anonymous, step_checked, step}
use Rattle.rules.specs.Session.{Session, Out, restarts, over_start, over_if, over, takes, proceed_if, proceed, met, react, fresh}
use Rattle.rules.specs.Setup.{Setup}
use Rattle.rules.specs.Table.{empty, Places, seek, holds, place_for}
use Rattle.rules.specs.Tests.{same_bool, is_empty}
use Rattle.rules.proofs.Checks.{checked, start-toggle, named-not-anonymous, of-stream}
use Rattle.rules.proofs.Others.{FoundPlace, place-spec}
use Rattle.rules.proofs.Own.{alone_at, began, long-free, begins, restart-start, react-stays}
use Rattle.rules.proofs.Ranges.{Small, two-or-more, check-small, reason-range}
use Rattle.rules.proofs.Table.{Found, seek-spec, sessions_of, fails-none, Sole}

-- ── one session ──

start-taken : (a b c : Bool) → over_start a b c ≡ none → (a ≡ true) × (b ≡ true) × (c ≡ true)
start-taken true true true e = (refl, refl, refl)
start-taken true true false e = let z : ◌≡◌ {A = ℕ} 0 1 = cc in absurd (omega arith)
start-taken true false c e = let z : ◌≡◌ {A = ℕ} 0 1 = cc in absurd (omega arith)
start-taken false b c e = let z : ◌≡◌ {A = ℕ} 0 1 = cc in absurd (omega arith)

same_false : (a b : Bool) → same_bool a b ≡ true → a ≡ false → b ≡ false
same_false true b e k = absurd (true≢false k)
same_false false true e k = sym e
same_false false false e k = refl

is-empty : (l : List ℕ) → is_empty l ≡ true → l ≡ []
is-empty [] e = refl
is-empty (b ∷ l) e = absurd (false≢true e)

followed : (a b c d e : Bool) → over_if a b c d e ≡ none → (a ≡ true) × (over_if true b c d e ≡ none)
followed true b c d e h = (refl, h)
followed false b c d e h = let z : ◌≡◌ {A = ℕ} 0 1 = cc in absurd (omega arith)

-- a session that takes a start was as one that the start begins
took-began : (s : Session) (v : Parsed) → v.start ≡ true → v.toggle ≡ false → over s v ≡ none → s ≡ began s.since v
unfolding over
took-began s v st g e =
    let f = followed (eqb v.interface s.follows) v.start (eqb v.transfer s.expected) (is_empty s.gathered) (same_bool v.toggle s.toggle) e in
    let k = start-taken (eqb v.transfer s.expected) (is_empty s.gathered) (same_bool v.toggle s.toggle)
    (ap (λ b. over_if true b (eqb v.transfer s.expected) (is_empty s.gathered) (same_bool v.toggle s.toggle)) (sym st) ∙ f.1) in
    let a = eqb-true v.transfer s.expected k.0 in
    let b = is-empty s.gathered k.1 in
    let c = same_false v.toggle s.toggle k.2 g in
    let n = eqb-true v.interface s.follows f.0 in
    λ i. record { expected = sym a i; gathered = b i; toggle = c i; since = s.since; follows = sym n i }

-- and takes it as such
module _ (v : Parsed) (st : v.start ≡ true) (g : v.toggle ≡ false) where
  took-proceed : (s : Session) (o : Option Reason) → over s v ≡ o → took (number_of (proceed_if o s v).answer) ≡ true → proceed_if o s v ≡ takes (fresh v) v
  unfolding proceed_if takes
  took-proceed s (some r) e t = absurd (omega (arith, ltb-true (reason_number r) 2 t, reason-range r))
  took-proceed s none e t =
      ap (λ x. takes x v) (took-began s v st g e) ∙ long-free (ltb 514 (length v.payload)) s.since v.time v v.payload st

  took-react : (s : Session) → took (number_of (react s v).answer) ≡ true → react s v ≡ takes (fresh v) v
  unfolding proceed
  took-react s t = go (restarts s v) refl
    where
      go : (b : Bool) → restarts s v ≡ b → react s v ≡ takes (fresh v) v
      go true e = restart-start s v e st g
      go false e = let q = react-stays s v e in q ∙ took-proceed s (over s v) refl (subst (λ o. took (number_of o.answer) ≡ true) q t)

-- ── the table ──

-- the answer, and the one session of the stream after it
pub record Began (d : Stream) (a : Step) (o : Out) : Type 0 where
  pub answer : a.answer ≡ o.answer
  pub session : sessions_of d a.places ≡ o.session ∷ []

took-block : (a : Answer) → took (number_of a) ≡ true → a ≡ no_block → ⊥
took-block a t e = false≢true (rw e at t)

module _ (ps : Places) (v : Parsed) (st : v.start ≡ true) (g : v.toggle ≡ false) (sole : Sole ps) where
  began-new : (o : Option ℕ) → FoundPlace v.time ps o → sessions_of v.stream ps ≡ [] → took (number_of (step_new o ps v).answer) ≡ true
      → Began v.stream (step_new o ps v) (takes (fresh v) v)
  unfolding step_new
  began-new none h e t = absurd (false≢true t)
  began-new (some i) h e t =
      let q = begins v.time v st g in
      let a = alone_at ps i (fresh v) [] v h.0 (inr e) sole (took-block _ t) in
      record { answer = a.0 ∙ ap (λ o. o.answer) q; session = a.1 ∙ ap (λ o. o.session ∷ []) q }

  began-start : (b : Bool) → b ≡ true → sessions_of v.stream ps ≡ [] → took (number_of (step_start b ps v).answer) ≡ true
      → Began v.stream (step_start b ps v) (takes (fresh v) v)
  unfolding step_start
  began-start true k e t = began-new (place_for v.time ps) (place-spec v.time ps) e t
  began-start false k e t = absurd (false≢true t)

  began-seek : (o : Option ℕ) → Found (holds v.stream) ps o → took (number_of (step_seek o ps v).answer) ≡ true
      → Began v.stream (step_seek o ps v) (takes (fresh v) v)
  unfolding step_seek react
  began-seek none h t = began-start v.start st (fails-none v.stream ps h) t
  began-seek (some i) h t =
      let x = session_in (get_or ps i empty) v in
      let a = alone_at ps i (met x v) (keeps (met x v) (blocks_in (get_or ps i empty))) v h.inside (inl h.passes) sole (took-block _ t) in
      let q = took-react v st g x (rw (sym a.0) t) in
      record { answer = a.0 ∙ ap (λ o. o.answer) q; session = a.1 ∙ ap (λ o. o.session ∷ []) q }

-- what is taken passed the checks
not_taken : (u : Setup) (r : Reception) (n : ℕ) → check u r ≡ some n → took n ≡ true → ⊥
not_taken u r n e k =
    let s : Small (some n) = subst Small e (check-small u r) in
    omega (arith, ltb-true n 2 k, two-or-more n s)

pub took-checked : (u : Setup) (ps : Places) (r : Reception) → took (number_of (step u ps r).answer) ≡ true → frame_check u r.arrival ≡ none
unfolding step step_checked
took-checked u ps r t = go (check u r) refl t
  where
    go : (o : Option ℕ) → check u r ≡ o → took (number_of (step_checked o (is_anonymous r.arrival.frame.id) ps (parsed u r.arrival)).answer) ≡ true → frame_check u r.arrival ≡ none
    go none e k = checked u r e
    go (some n) e k = absurd (not_taken u r n e k)

began-stream : (u : Setup) (ps : Places) (r : Reception) → 0 < (stream_of r.arrival.frame.id).source → (parsed u r.arrival).start ≡ true → Sole ps
    → took (number_of (step u ps r).answer) ≡ true → Began (stream_of r.arrival.frame.id) (step u ps r) (takes (fresh (parsed u r.arrival)) (parsed u r.arrival))
unfolding step step_checked step_anonymous parsed
began-stream u ps r named st sole t =
    rw (named-not-anonymous r.arrival.frame.id named) (go (check u r) refl (rw (named-not-anonymous r.arrival.frame.id named) at t))
  where
    v : Parsed
    v = parsed u r.arrival

    go : (o : Option ℕ) → check u r ≡ o → took (number_of (step_checked o false ps v).answer) ≡ true
        → Began (stream_of r.arrival.frame.id) (step_checked o false ps v) (takes (fresh v) v)
    go none e k =
        began-seek ps v st (start-toggle u r.arrival (checked u r e) st) sole (seek (holds v.stream) ps) (seek-spec (holds v.stream) ps) k
    go (some n) e k = absurd (not_taken u r n e k)

pub began-by : (u : Setup) (d : Stream) (ps : Places) (r : Reception) → 0 < d.source → of_stream d r.arrival.frame ≡ true → (parsed u r.arrival).start ≡ true
    → Sole ps → took (number_of (step u ps r).answer) ≡ true → Began d (step u ps r) (takes (fresh (parsed u r.arrival)) (parsed u r.arrival))
began-by u d ps r named e st sole t =
    subst (λ k. 0 < k.source → Began k (step u ps r) (takes (fresh (parsed u r.arrival)) (parsed u r.arrival)))
    (of-stream d r.arrival.frame e) (λ n. began-stream u ps r n st sole t) named
