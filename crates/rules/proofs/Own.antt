-- One receiver beside a reference, a session that hears its stream alone and keeps its place: both answer a frame of the stream alike.
use mathlib.Core.Path.{◌≡◌, refl, sym, ap, ◌∙◌, subst}
use mathlib.Core.Logic.{◌⊎◌, inl, inr}
use mathlib.Core.Bool.{Bool, true, false}
use mathlib.Core.List.{List, [], ◌∷◌, cons≢nil, head-eq_of_cons-eq}
use mathlib.Core.Option.{Option, none, some}
use Prim.Native.Nat.{ℕ, ◌≤◌, ◌<◌}
use native.Mathlib.Omega.{arith}
use lib.Dec.{ltb}
use lib.ListN.{length, get_or}
use borrow.Author.Tests.{eq-eqb}
use Rattle.rules.specs.Answer.{Answer, refused, full, passed, no_transfer, no_block}
use Rattle.rules.specs.Blocks.{keeps, blocks_in}
use Rattle.rules.specs.Check.{Reception, Parsed, parsed, frame_check}
use Rattle.rules.specs.Condition3.{of_stream}
use Rattle.rules.specs.Frame.{Arrival, Stream, stream_of}
use Rattle.rules.specs.Reception.{Step, step_at, step_new, step_start, session_in, step_seek, step_anonymous, step_checked, step}
use Rattle.rules.specs.Session.{Session, Out, restarts, restarted, met, over, take_end, take_long, takes, proceed_if, proceed, react, fresh}
use Rattle.rules.specs.Setup.{Setup}
use Rattle.rules.specs.Table.{empty, Places, seek, holds, place_for}
use Rattle.rules.proofs.Checks.{roomy-check, start-toggle, named-not-anonymous, of-stream}
use Rattle.rules.proofs.Landing.{landed, session-at}
use Rattle.rules.proofs.Others.{Old, true-old, AllOld, Kept, still, aged, FoundPlace, place-spec}
use Rattle.rules.proofs.Table.{Found, seek-spec, sessions_of, fails-none, Sole, only}

-- ── the reference ──

unfoldable pub ref_if : Option ℕ → Session → Parsed → Out
ref_if (some n) s v = record { answer = refused n; session = s }
ref_if none s v = react s v

unfoldable pub ref : Setup → Session → Arrival → Out
ref u s f = ref_if (frame_check u f) s (parsed u f)

unfoldable pub ref_run : Setup → Session → List Arrival → List Answer
ref_run u s [] = []
ref_run u s (f ∷ fs) = (ref u s f).answer ∷ ref_run u (ref u s f).session fs

-- the table holds the reference's session; or that is old, and so is what the table holds, if it holds one
pub data Beside (d : Stream) (t : ℕ) (ps : Places) (s : Session) : Type 0 where
  same : sessions_of d ps ≡ s ∷ [] → Beside d t ps s
  past : AllOld t (sessions_of d ps) → Old t s → Beside d t ps s

all-later : (t t' : ℕ) → t ≤ t' → (l : List Session) → AllOld t l → AllOld t' l
all-later t t' h [] o = tt
all-later t t' h (s ∷ l) o = (omega (arith, o.0), all-later t t' h l o.1)

pub later : {d : Stream} {t : ℕ} {ps : Places} {s : Session} (t' : ℕ) → t ≤ t' → Beside d t ps s → Beside d t' ps s
later t' h (same e) = same e
later {d} {t} {ps} t' h (past o os) = past (all-later t t' h (sessions_of d ps) o) (omega arith)

-- a frame of another stream keeps it
pub beside-kept : {d : Stream} {t : ℕ} {ps qs : Places} {s : Session} → Kept d t ps qs → Beside d t ps s → Beside d t qs s
beside-kept (still q) (same e) = same (q ∙ e)
beside-kept {t = t} (still q) (past o os) = past (subst (AllOld t) (sym q) o) os
beside-kept {t = t} (aged o n) (same e) = past n (subst (AllOld t) e o).0
beside-kept (aged o n) (past o' os) = past n os

-- ── a session that a start begins: nothing of the past is left ──

abbrev pub began : ℕ → Parsed → Session
began x v = record { expected = v.transfer; gathered = []; toggle = false; since = x; follows = v.interface }

end-free : (b : Bool) (x y : ℕ) (v : Parsed) (all : List ℕ) → v.start ≡ true → take_end b (began x v) v all ≡ take_end b (began y v) v all
unfolding take_end
end-free true x y v all e = rw e
end-free false x y v all e = rw e

pub long-free : (b : Bool) (x y : ℕ) (v : Parsed) (all : List ℕ) → v.start ≡ true → take_long b (began x v) v all ≡ take_long b (began y v) v all
unfolding take_long
long-free true x y v all e = rw e
long-free false x y v all e = end-free v.last x y v all e

pub proceed-taken : (s : Session) (v : Parsed) → over s v ≡ none → proceed s v ≡ takes s v
unfolding proceed proceed_if
proceed-taken s v e = ap (λ o. proceed_if o s v) e

began-taken : (x : ℕ) (v : Parsed) → v.start ≡ true → v.toggle ≡ false → over (began x v) v ≡ none
unfolding over
began-taken x v e g = rw (e, g, eq-eqb v.interface v.interface refl, eq-eqb v.transfer v.transfer refl)

pub begins : (x : ℕ) (v : Parsed) → v.start ≡ true → v.toggle ≡ false → proceed (began x v) v ≡ takes (fresh v) v
unfolding takes
begins x v e g =
    proceed-taken (began x v) v (began-taken x v e g) ∙ long-free (ltb 514 (length v.payload)) x v.time v v.payload e

-- ── an old session ──

old-restarts : (s : Session) (v : Parsed) → Old v.time s → restarts s v ≡ true
unfolding restarts
old-restarts s v o = rw (true-old v.time s o)

pub react-met : (s x : Session) (v : Parsed) → met s v ≡ x → react s v ≡ proceed x v
unfolding react
react-met s x v e = ap (λ y. proceed y v) e

-- a session that restarts goes on as one that the frame begins
pub react-restarts : (s : Session) (v : Parsed) → restarts s v ≡ true → react s v ≡ proceed (restarted s v) v
unfolding met
react-restarts s v e = react-met s (restarted s v) v (rw e)

pub react-stays : (s : Session) (v : Parsed) → restarts s v ≡ false → react s v ≡ proceed s v
unfolding met
react-stays s v e = react-met s s v (rw e)

pub restart-start : (s : Session) (v : Parsed) → restarts s v ≡ true → v.start ≡ true → v.toggle ≡ false → react s v ≡ takes (fresh v) v
unfolding restarted
restart-start s v r e g = react-restarts s v r ∙ ap (λ y. proceed y v) (rw e) ∙ begins s.since v e g

pub restart-other : (s : Session) (v : Parsed) → restarts s v ≡ true → v.start ≡ false → react s v ≡ record { answer = passed no_transfer; session = restarted s v }
unfolding proceed proceed_if over restarted
restart-other s v r e = react-restarts s v r ∙ rw (e, eq-eqb v.interface v.interface refl)

react-old-start : (s : Session) (v : Parsed) → Old v.time s → v.start ≡ true → v.toggle ≡ false → react s v ≡ takes (fresh v) v
react-old-start s v o e g = restart-start s v (old-restarts s v o) e g

react-old-other : (s : Session) (v : Parsed) → Old v.time s → v.start ≡ false
    → react s v ≡ record { answer = passed no_transfer; session = restarted s v }
react-old-other s v o e = restart-other s v (old-restarts s v o) e

old-stays : (s : Session) (v : Parsed) → Old v.time s → Old v.time (restarted s v)
unfolding restarted
old-stays s v o = o

-- ── a frame of the stream ──

pub record Agree (d : Stream) (t : ℕ) (a : Step) (o : Out) : Type 0 where
  pub answer : a.answer ≡ o.answer
  pub beside : Beside d t a.places o.session

-- a session at a place answers as it would alone, but for 26
pub alone_at : (ps : Places) (i : ℕ) (x : Session) (bs : List ℕ) (v : Parsed) → i < length ps
    → (holds v.stream (get_or ps i empty) ≡ true) ⊎ (sessions_of v.stream ps ≡ []) → Sole ps → ((step_at ps i x bs v).answer ≡ no_block → ⊥)
    → ((step_at ps i x bs v).answer ≡ (proceed x v).answer) × (sessions_of v.stream (step_at ps i x bs v).places ≡ (proceed x v).session ∷ [])
alone_at ps i x bs v inside mine sole nb =
    let a = (landed ps i x bs v).agrees nb in
    (a.0, session-at ps i x bs v inside mine sole ∙ ap (λ y. y ∷ []) a.1)

module _ (ps : Places) (s : Session) (v : Parsed) (proper : v.start ≡ true → v.toggle ≡ false) (sole : Sole ps) where
  -- two old sessions go on alike
  both-old : (x : Session) (a : Step) → Old v.time x → Old v.time s → a.answer ≡ (react x v).answer
      → sessions_of v.stream a.places ≡ (react x v).session ∷ [] → Agree v.stream v.time a (react s v)
  both-old x a ox os h k = go v.start refl
    where
      go : (b : Bool) → v.start ≡ b → Agree v.stream v.time a (react s v)
      go true e =
          let q : react x v ≡ react s v = react-old-start x v ox e (proper e) ∙ sym (react-old-start s v os e (proper e)) in
          record { answer = h ∙ ap (λ o. o.answer) q; beside = same (k ∙ ap (λ o. o.session ∷ []) q) }
      go false e =
          let q = react-old-other x v ox e in
          rw (react-old-other s v os e)
          (record {
            answer = h ∙ ap (λ o. o.answer) q;
            beside = past (rw (k ∙ ap (λ o. o.session ∷ []) q) (old-stays x v ox, tt)) (old-stays s v os);
          })

  own-found : (i : ℕ) → Found (holds v.stream) ps (some i) → Beside v.stream v.time ps s → ((step_seek (some i) ps v).answer ≡ no_block → ⊥)
      → Agree v.stream v.time (step_seek (some i) ps v) (react s v)
  unfolding step_seek Sole react
  own-found i h b nb =
      let m = only v.stream ps i h (sole v.stream) in
      let x = session_in (get_or ps i empty) v in
      let is : x ≡ m.holder = ap (λ p. session_in p v) m.here in
      let a = alone_at ps i (met x v) (keeps (met x v) (blocks_in (get_or ps i empty))) v h.inside (inl h.passes) sole nb in
      go m.holder m.sole (a.0 ∙ ap (λ y. (react y v).answer) is) (a.1 ∙ ap (λ y. (react y v).session ∷ []) is) b
    where
      go : (x : Session) → sessions_of v.stream ps ≡ x ∷ [] → (step_seek (some i) ps v).answer ≡ (react x v).answer
          → sessions_of v.stream (step_seek (some i) ps v).places ≡ (react x v).session ∷ [] → Beside v.stream v.time ps s
          → Agree v.stream v.time (step_seek (some i) ps v) (react s v)
      go x q a k (same e) =
          let z : x ≡ s = head-eq_of_cons-eq (sym q ∙ e) in
          record { answer = a ∙ ap (λ y. (react y v).answer) z; beside = same (k ∙ ap (λ y. (react y v).session ∷ []) z) }
      go x q a k (past o os) = both-old x (step_seek (some i) ps v) (subst (AllOld v.time) q o).0 os a k

  own_new : (o : Option ℕ) → FoundPlace v.time ps o → sessions_of v.stream ps ≡ [] → Old v.time s → v.start ≡ true
      → ((step_new o ps v).answer ≡ full → ⊥) → ((step_new o ps v).answer ≡ no_block → ⊥) → Agree v.stream v.time (step_new o ps v) (react s v)
  unfolding step_new
  own_new none h e os st nf nb = absurd (nf refl)
  own_new (some i) h e os st nf nb =
      let q : proceed (fresh v) v ≡ react s v = begins v.time v st (proper st) ∙ sym (react-old-start s v os st (proper st)) in
      let a = alone_at ps i (fresh v) [] v h.0 (inr e) sole nb in
      record { answer = a.0 ∙ ap (λ o. o.answer) q; beside = same (a.1 ∙ ap (λ o. o.session ∷ []) q) }

  own-start : (b : Bool) → v.start ≡ b → sessions_of v.stream ps ≡ [] → Old v.time s
      → (b ≡ true → (step_start b ps v).answer ≡ full → ⊥) → ((step_start b ps v).answer ≡ no_block → ⊥)
      → Agree v.stream v.time (step_start b ps v) (react s v)
  unfolding step_start
  own-start true st e os nf nb = own_new (place_for v.time ps) (place-spec v.time ps) e os st (nf refl) nb
  own-start false st e os nf nb = rw (react-old-other s v os st) (record { answer = refl; beside = past (rw e tt) (old-stays s v os) })

  own-none : sessions_of v.stream ps ≡ [] → Beside v.stream v.time ps s
      → (v.start ≡ true → (step_start v.start ps v).answer ≡ full → ⊥) → ((step_start v.start ps v).answer ≡ no_block → ⊥)
      → Agree v.stream v.time (step_start v.start ps v) (react s v)
  own-none e (same k) nf nb = absurd (cons≢nil (sym k ∙ e))
  own-none e (past o os) nf nb = own-start v.start refl e os nf nb

  own-seek : (o : Option ℕ) → Found (holds v.stream) ps o → Beside v.stream v.time ps s
      → (v.start ≡ true → (step_seek o ps v).answer ≡ full → ⊥) → ((step_seek o ps v).answer ≡ no_block → ⊥)
      → Agree v.stream v.time (step_seek o ps v) (react s v)
  unfolding step_seek
  own-seek none h b nf nb = own-none (fails-none v.stream ps h) b nf nb
  own-seek (some i) h b nf nb = own-found i h b nb

own-stream : (u : Setup) (ps : Places) (s : Session) (r : Reception) → Sole ps
    → 0 < (stream_of r.arrival.frame.id).source → 512 ≤ r.room → Beside (stream_of r.arrival.frame.id) r.arrival.frame.time ps s
    → ((parsed u r.arrival).start ≡ true → (step u ps r).answer ≡ full → ⊥) → ((step u ps r).answer ≡ no_block → ⊥)
    → Agree (stream_of r.arrival.frame.id) r.arrival.frame.time (step u ps r) (ref u s r.arrival)
unfolding step parsed step_checked step_anonymous ref ref_if
own-stream u ps s r sole named room beside nf nb =
    rw (roomy-check u r room, named-not-anonymous r.arrival.frame.id named)
    (go (frame_check u r.arrival) refl (rw (roomy-check u r room, named-not-anonymous r.arrival.frame.id named) at nf)
    (rw (roomy-check u r room, named-not-anonymous r.arrival.frame.id named) at nb))
  where
    v : Parsed
    v = parsed u r.arrival

    go : (o : Option ℕ) → frame_check u r.arrival ≡ o → (v.start ≡ true → (step_checked o false ps v).answer ≡ full → ⊥)
        → ((step_checked o false ps v).answer ≡ no_block → ⊥)
        → Agree (stream_of r.arrival.frame.id) r.arrival.frame.time (step_checked o false ps v) (ref_if o s v)
    go none e n b = own-seek ps s v (start-toggle u r.arrival e) sole (seek (holds v.stream) ps) (seek-spec (holds v.stream) ps) beside n b
    go (some n) e k b = record { answer = refl; beside = beside }

pub own : (u : Setup) (d : Stream) (t : ℕ) (ps : Places) (s : Session) (r : Reception) → Sole ps
    → 0 < d.source → of_stream d r.arrival.frame ≡ true → t ≤ r.arrival.frame.time → 512 ≤ r.room → Beside d t ps s
    → ((parsed u r.arrival).start ≡ true → (step u ps r).answer ≡ full → ⊥) → ((step u ps r).answer ≡ no_block → ⊥)
    → Agree d r.arrival.frame.time (step u ps r) (ref u s r.arrival)
own u d t ps s r sole named e h room beside nf nb =
    subst (λ k. 0 < k.source → Beside k r.arrival.frame.time ps s → Agree k r.arrival.frame.time (step u ps r) (ref u s r.arrival))
    (of-stream d r.arrival.frame e) (λ n l. own-stream u ps s r sole n room l nf nb) named (later r.arrival.frame.time h beside)
