-- All streams: the pass over a capture, seen from each stream.
use mathlib.Core.Path.{◌≡◌, refl, sym, ap, ◌∙◌, subst}
use mathlib.Core.Bool.{Bool, true, false, false≢true}
use mathlib.Core.List.{List, [], ◌∷◌}
use mathlib.Core.Option.{Option, none, some}
use mathlib.Mathlib.Data.Bool.Basic.{and_elim_left}
use Prim.Native.Nat.{ℕ, suc, ◌≤◌, ◌<◌}
use native.Mathlib.Omega.{arith}
use lib.Dec.{ltb}
use lib.ListN.{length}
use borrow.Author.Tests.{ltb-true, ltb-false, le-ltb}
use Rattle.bits.specs.Order.{Octets}
use Rattle.rules.specs.Condition3.{keep}
use Rattle.rules.specs.Frame.{Frame, Stream, same_stream, stream_of, is_anonymous}
use Rattle.rules.specs.Setup.{Setup}
use Rattle.rules.specs.Sound.{stream_fits}
use Rattle.rules.specs.Tests.{pick}
use Rattle.rules.proofs.Checks.{named-not-anonymous}
use Rattle.rules.proofs.Lasting.{stream-fits}
use Rattle.rules.proofs.Table.{same_refl, same-eq}
use Rattle.judge_rules.specs.Good.{signature_of, frame_check, Checked, of_stream, add, streams_in}
use Rattle.judge_rules.specs.Laws.{Bytes}
use Rattle.judge_rules.specs.Verdict.{seen, Followed, idle, Next, goes, refuses, follow, Entry, streams, state_of, put, Judging, on, off, entered, Follower, named, judged, advance, run, gathering}
use Rattle.judge_rules.proofs.Views.{seen-frame, accepts, hearer, heard, named-frame}
use Rattle.judge_rules.proofs.Following.{Continues, Fits, nothing, Allows, allows, Forth, forth}

-- ── the state of a stream ──

module _ {S : Type 0} where
  pub put_same : (s₀ : S) (d : Stream) (s : S) (st : List (Entry S)) → state_of s₀ d (put d s st) ≡ s
  unfolding state_of put
  put_same s₀ d s [] = ap (λ b. pick b s s₀) (same_refl d)
  put_same s₀ d s (e ∷ es) = go (put_same s₀ d s es) (same_stream e.stream d) refl
    where
      go : state_of s₀ d (put d s es) ≡ s → (b : Bool) → same_stream e.stream d ≡ b
          → state_of s₀ d (pick b (record { stream = e.stream; state = s } ∷ es) (e ∷ put d s es)) ≡ s
      go h true q = ap (λ b. pick b s (state_of s₀ d es)) q
      go h false q = ap (λ b. pick b e.state (state_of s₀ d (put d s es))) q ∙ h

  pub put_other : (s₀ : S) (d e : Stream) (s : S) (st : List (Entry S)) → same_stream d e ≡ false → state_of s₀ e (put d s st) ≡ state_of s₀ e st
  unfolding state_of put
  put_other s₀ d e s [] n = ap (λ b. pick b s s₀) n
  put_other s₀ d e s (x ∷ xs) n = go (put_other s₀ d e s xs n) (same_stream x.stream d) refl
    where
      go : state_of s₀ e (put d s xs) ≡ state_of s₀ e xs → (b : Bool) → same_stream x.stream d ≡ b
          → state_of s₀ e (pick b (record { stream = x.stream; state = s } ∷ xs) (x ∷ put d s xs)) ≡ pick (same_stream x.stream e) x.state (state_of s₀ e xs)
      go h true q =
          let m : same_stream x.stream e ≡ false = ap (λ y. same_stream y e) (same-eq x.stream d q) ∙ n in
          ap (λ b. pick b s (state_of s₀ e xs)) m ∙ ap (λ b. pick b x.state (state_of s₀ e xs)) (sym m)
      go h false q = ap (pick (same_stream x.stream e) x.state) h

  pub streams-put : (d : Stream) (s : S) (st : List (Entry S)) → streams (put d s st) ≡ add d (streams st)
  unfolding streams put add
  streams-put d s [] = refl
  streams-put d s (e ∷ es) = go (streams-put d s es) (same_stream e.stream d)
    where
      go : streams (put d s es) ≡ add d (streams es) → (b : Bool)
          → streams (pick b (record { stream = e.stream; state = s } ∷ es) (e ∷ put d s es)) ≡ pick b (e.stream ∷ streams es) (e.stream ∷ add d (streams es))
      go h true = refl
      go h false = ap (λ l. e.stream ∷ l) h

add-grows : (d : Stream) (ds : List Stream) → length ds ≤ length (add d ds)
unfolding add
add-grows d [] = omega arith
add-grows d (e ∷ ds) = go (add-grows d ds) (same_stream e d)
  where
    go : length ds ≤ length (add d ds) → (b : Bool) → suc (length ds) ≤ length (pick b (e ∷ ds) (e ∷ add d ds))
    go h true = omega arith
    go h false = omega arith

streams-grow : (ds : List Stream) (l : List Frame) → length ds ≤ length (streams_in ds l)
unfolding streams_in
streams-grow ds [] = omega arith
streams-grow ds (f ∷ l) = go (streams-grow ds l) (streams-grow (add (stream_of f.id) ds) l) (is_anonymous f.id)
  where
    go : length ds ≤ length (streams_in ds l) → length (add (stream_of f.id) ds) ≤ length (streams_in (add (stream_of f.id) ds) l) → (b : Bool) → length ds ≤ length (streams_in (pick b ds (add (stream_of f.id) ds)) l)
    go h k true = h
    go h k false = omega (arith, add-grows (stream_of f.id) ds)

-- ── what is known, and what may come ──

abbrev pub known : Stream → List (Entry Followed) → Followed
known d st = state_of (idle none) d st

-- the state of its stream after a frame
abbrev pub followed : Setup → List (Entry Followed) → Frame → Next Followed
followed u st f = follow (signature_of u (stream_of f.id)) (stream_of f.id) (known (stream_of f.id) st) (seen f)

pub record Reached (u : Setup) (st : List (Entry Followed)) : Type 0 where
  pub count : length (streams st) ≤ 64
  pub fits : (d : Stream) → Fits (signature_of u d) d (known d st)

pub record Rest (u : Setup) (st : List (Entry Followed)) (l : List Frame) : Type 0 where
  pub checks : Checked u l
  pub few : length (streams_in (streams st) l) ≤ 64
  pub flows : (d : Stream) → 0 < d.source → Continues (signature_of u d) d (known d st) (of_stream d l)

abbrev pub Passing : Judging Followed → Type 0
Passing (on i st) = Unit {0}
Passing (off n i) = ⊥

pub off-stays : (F : Follower) (u : Setup) (n i : ℕ) (l : List Frame) → run F u (off n i) l ≡ off n i
unfolding run advance
off-stays F u n i [] = refl
off-stays F u n i (f ∷ l) = off-stays F u n i l

off-fails : (u : Setup) (n i : ℕ) (l : List Frame) → Passing (run gathering u (off n i) l) → ⊥
off-fails u n i l h = subst Passing (off-stays gathering u n i l) h

-- an anonymous frame is of no stream with a named source
pub apart : (f : Frame) (d : Stream) → is_anonymous f.id ≡ true → 0 < d.source → same_stream (stream_of f.id) d ≡ false
apart f d a h = go (same_stream (stream_of f.id) d) refl
  where
    go : (b : Bool) → same_stream (stream_of f.id) d ≡ b → b ≡ false
    go false e = refl
    go true e =
        let s : stream_of f.id ≡ d = same-eq (stream_of f.id) d e in
        absurd (false≢true (sym (named-not-anonymous f.id (subst (λ (x : Stream). 0 < x.source) (sym s) h)) ∙ a))

pub source-named : (u : Setup) (f : Frame) → frame_check u f ≡ none → is_anonymous f.id ≡ false → 0 < (stream_of f.id).source
unfolding stream_fits
source-named u f e a =
    let h = stream-fits (hearer u f) (heard f) (accepts u f e) a in
    ltb-true 0 (stream_of f.id).source (and_elim_left _ _ (and_elim_left _ _ h))

-- ── passing is enough ──

sound-step : (u : Setup) (f : Frame) (l : List Frame) (i : ℕ) (st : List (Entry Followed)) → Reached u st → Octets f.bytes
    → ((st : List (Entry Followed)) → Reached u st → Passing (run gathering u (on (suc i) st) l) → Rest u st l)
    → Passing (run gathering u (advance gathering u (on i st) f) l) → Rest u st (f ∷ l)
unfolding run advance judged named entered streams_in of_stream
sound-step u f l i st h o ih p = go (frame_check u f) refl (is_anonymous f.id) refl p
  where
    taken : frame_check u f ≡ none → is_anonymous f.id ≡ false → length (add (stream_of f.id) (streams st)) ≤ 64
        → (n : Next Followed) → Allows (signature_of u (stream_of f.id)) (stream_of f.id) (known (stream_of f.id) st) (seen f) n
        → Passing (run gathering u (entered i (stream_of f.id) st n) l) → Rest u st (f ∷ l)
    taken e a few (refuses n) k q = absurd (off-fails u n i l q)
    taken e a few (goes s) k q =
        let reached : Reached u (put (stream_of f.id) s st) = record {
          count = subst (λ ds. length ds ≤ 64) (sym (streams-put (stream_of f.id) s st)) few;
          fits = λ d. fits-at d (same_stream (stream_of f.id) d) refl;
        } in
        let r : Rest u (put (stream_of f.id) s st) l = ih (put (stream_of f.id) s st) reached q in
        record {
          checks = (e, r.checks);
          few = subst (λ b. length (streams_in (pick b (streams st) (add (stream_of f.id) (streams st))) l) ≤ 64) (sym a)
              (subst (λ ds. length (streams_in ds l) ≤ 64) (streams-put (stream_of f.id) s st) r.few);
          flows = λ d x. flow-at d x (same_stream (stream_of f.id) d) refl r;
        }
      where
        fits-at : (d : Stream) (b : Bool) → same_stream (stream_of f.id) d ≡ b → Fits (signature_of u d) d (known d (put (stream_of f.id) s st))
        fits-at d true z =
            subst (λ d. Fits (signature_of u d) d (known d (put (stream_of f.id) s st))) (same-eq (stream_of f.id) d z)
            (subst (Fits (signature_of u (stream_of f.id)) (stream_of f.id)) (sym (put_same (idle none) (stream_of f.id) s st)) k.fits)
        fits-at d false z = subst (Fits (signature_of u d) d) (sym (put_other (idle none) (stream_of f.id) d s st z)) (h.fits d)

        flow-at : (d : Stream) → 0 < d.source → (b : Bool) → same_stream (stream_of f.id) d ≡ b → Rest u (put (stream_of f.id) s st) l
            → Continues (signature_of u d) d (known d st) (keep b f (of_stream d l))
        flow-at d x true z r =
            subst (λ d. Continues (signature_of u d) d (known d st) (f ∷ of_stream d l)) (same-eq (stream_of f.id) d z)
            (subst (λ g. Continues (signature_of u (stream_of f.id)) (stream_of f.id) (known (stream_of f.id) st) (g ∷ of_stream (stream_of f.id) l))
            (seen-frame f o (named-frame u f e a o).some)
            (k.before (of_stream (stream_of f.id) l)
            (subst (λ s. Continues (signature_of u (stream_of f.id)) (stream_of f.id) s (of_stream (stream_of f.id) l)) (put_same (idle none) (stream_of f.id) s st)
            (r.flows (stream_of f.id) (source-named u f e a)))))
        flow-at d x false z r = subst (λ s. Continues (signature_of u d) d s (of_stream d l)) (put_other (idle none) (stream_of f.id) d s st z) (r.flows d x)

    counted : frame_check u f ≡ none → is_anonymous f.id ≡ false → (b : Bool) → ltb 64 (length (add (stream_of f.id) (streams st))) ≡ b
        → Passing (run gathering u (pick b (off 9 i) (entered i (stream_of f.id) st (followed u st f))) l)
        → Rest u st (f ∷ l)
    counted e a true z q = absurd (off-fails u 9 i l q)
    counted e a false z q =
        taken e a (ltb-false 64 (length (add (stream_of f.id) (streams st))) z)
        (followed u st f)
        (allows (signature_of u (stream_of f.id)) (stream_of f.id) (known (stream_of f.id) st) (seen f) (h.fits (stream_of f.id)) (named-frame u f e a o).valid) q

    go : (o : Option ℕ) → frame_check u f ≡ o → (b : Bool) → is_anonymous f.id ≡ b → Passing (run gathering u (judged gathering u o b i st f) l) → Rest u st (f ∷ l)
    go (some n) e b a q = absurd (off-fails u n i l q)
    go none e true a q =
        let r : Rest u st l = ih st h q in
        record {
          checks = (e, r.checks);
          few = subst (λ b. length (streams_in (pick b (streams st) (add (stream_of f.id) (streams st))) l) ≤ 64) (sym a) r.few;
          flows = λ d x. subst (λ b. Continues (signature_of u d) d (known d st) (keep b f (of_stream d l))) (sym (apart f d a x)) (r.flows d x);
        }
    go none e false a q = counted e a (ltb 64 (length (add (stream_of f.id) (streams st)))) refl q

pub sound-from : (u : Setup) (l : List Frame) (i : ℕ) (st : List (Entry Followed)) → Reached u st → Bytes l → Passing (run gathering u (on i st) l) → Rest u st l
unfolding run streams_in of_stream
sound-from u [] i st h bs p =
    record { checks = tt; few = h.count; flows = λ d k. nothing (signature_of u d) d (known d st) (h.fits d) }
sound-from u (f ∷ l) i st h bs p = sound-step u f l i st h bs.0 (λ st h p. sound-from u l (suc i) st h bs.1 p) p

-- ── and needed ──

complete-step : (u : Setup) (f : Frame) (l : List Frame) (i : ℕ) (st : List (Entry Followed)) → ((st : List (Entry Followed)) → Rest u st l → Passing (run gathering u (on (suc i) st) l))
    → Rest u st (f ∷ l) → Passing (run gathering u (advance gathering u (on i st) f) l)
unfolding run advance judged named entered streams_in of_stream
complete-step u f l i st ih r = subst (λ o. Passing (run gathering u (judged gathering u o (is_anonymous f.id) i st f) l)) (sym r.checks.0) (go (is_anonymous f.id) refl)
  where
    e : frame_check u f ≡ none
    e = r.checks.0

    taken : is_anonymous f.id ≡ false → length (streams_in (add (stream_of f.id) (streams st)) l) ≤ 64
        → Forth (signature_of u (stream_of f.id)) (stream_of f.id) (known (stream_of f.id) st) f (of_stream (stream_of f.id) l)
        → Passing (run gathering u (named gathering u i (stream_of f.id) st f) l)
    taken a few k =
        let small : ltb 64 (length (add (stream_of f.id) (streams st))) ≡ false =
        le-ltb 64 (length (add (stream_of f.id) (streams st))) (omega (arith, streams-grow (add (stream_of f.id) (streams st)) l)) in
        subst (λ b. Passing (run gathering u (pick b (off 9 i) (entered i (stream_of f.id) st (followed u st f))) l))
        (sym small)
        (subst (λ n. Passing (run gathering u (entered i (stream_of f.id) st n) l)) (sym k.taken)
        (ih (put (stream_of f.id) k.next st) (record {
          checks = r.checks.1;
          few = subst (λ ds. length (streams_in ds l) ≤ 64) (sym (streams-put (stream_of f.id) k.next st)) few;
          flows = λ d x. flow-at d x (same_stream (stream_of f.id) d) refl (r.flows d x);
        })))
      where
        flow-at : (d : Stream) → 0 < d.source → (b : Bool) → same_stream (stream_of f.id) d ≡ b → Continues (signature_of u d) d (known d st) (keep b f (of_stream d l))
            → Continues (signature_of u d) d (known d (put (stream_of f.id) k.next st)) (of_stream d l)
        flow-at d x true z c =
            subst (λ d. Continues (signature_of u d) d (known d (put (stream_of f.id) k.next st)) (of_stream d l)) (same-eq (stream_of f.id) d z)
            (subst (λ s. Continues (signature_of u (stream_of f.id)) (stream_of f.id) s (of_stream (stream_of f.id) l)) (sym (put_same (idle none) (stream_of f.id) k.next st)) k.after)
        flow-at d x false z c = subst (λ s. Continues (signature_of u d) d s (of_stream d l)) (sym (put_other (idle none) (stream_of f.id) d k.next st z)) c

    go : (b : Bool) → is_anonymous f.id ≡ b → Passing (run gathering u (judged gathering u none b i st f) l)
    go true a =
        ih st (record {
          checks = r.checks.1;
          few = subst (λ b. length (streams_in (pick b (streams st) (add (stream_of f.id) (streams st))) l) ≤ 64) a r.few;
          flows = λ d x. subst (λ b. Continues (signature_of u d) d (known d st) (keep b f (of_stream d l))) (apart f d a x) (r.flows d x);
        })
    go false a =
        taken a (subst (λ b. length (streams_in (pick b (streams st) (add (stream_of f.id) (streams st))) l) ≤ 64) a r.few)
        (forth (signature_of u (stream_of f.id)) (stream_of f.id) (known (stream_of f.id) st) f (of_stream (stream_of f.id) l)
        (subst (λ b. Continues (signature_of u (stream_of f.id)) (stream_of f.id) (known (stream_of f.id) st) (keep b f (of_stream (stream_of f.id) l))) (same_refl (stream_of f.id))
        (r.flows (stream_of f.id) (source-named u f e a))))

pub complete-from : (u : Setup) (l : List Frame) (i : ℕ) (st : List (Entry Followed)) → Rest u st l → Passing (run gathering u (on i st) l)
unfolding run
complete-from u [] i st r = tt
complete-from u (f ∷ l) i st r = complete-step u f l i st (λ st r. complete-from u l (suc i) st r) r

-- ── what is known stays known ──

abbrev pub ReachedJ : Setup → Judging Followed → Type 0
ReachedJ u (on i st) = Reached u st
ReachedJ u (off n i) = Unit {0}

pub reached-step : (u : Setup) (i : ℕ) (st : List (Entry Followed)) (f : Frame) → Reached u st → Octets f.bytes → ReachedJ u (advance gathering u (on i st) f)
unfolding advance judged named entered
reached-step u i st f h o = go (frame_check u f) refl (is_anonymous f.id) refl
  where
    next : (n : Next Followed) → Allows (signature_of u (stream_of f.id)) (stream_of f.id) (known (stream_of f.id) st) (seen f) n
        → length (add (stream_of f.id) (streams st)) ≤ 64 → ReachedJ u (entered i (stream_of f.id) st n)
    next (refuses n) k few = tt
    next (goes s) k few = record {
      count = subst (λ ds. length ds ≤ 64) (sym (streams-put (stream_of f.id) s st)) few;
      fits = λ d. fits-at d (same_stream (stream_of f.id) d) refl;
    }
      where
        fits-at : (d : Stream) (b : Bool) → same_stream (stream_of f.id) d ≡ b → Fits (signature_of u d) d (known d (put (stream_of f.id) s st))
        fits-at d true z =
            subst (λ d. Fits (signature_of u d) d (known d (put (stream_of f.id) s st))) (same-eq (stream_of f.id) d z)
            (subst (Fits (signature_of u (stream_of f.id)) (stream_of f.id)) (sym (put_same (idle none) (stream_of f.id) s st)) k.fits)
        fits-at d false z = subst (Fits (signature_of u d) d) (sym (put_other (idle none) (stream_of f.id) d s st z)) (h.fits d)

    counted : frame_check u f ≡ none → is_anonymous f.id ≡ false → (b : Bool) → ltb 64 (length (add (stream_of f.id) (streams st))) ≡ b
        → ReachedJ u (pick b (off 9 i) (entered i (stream_of f.id) st (followed u st f)))
    counted e a true z = tt
    counted e a false z =
        next (followed u st f)
        (allows (signature_of u (stream_of f.id)) (stream_of f.id) (known (stream_of f.id) st) (seen f) (h.fits (stream_of f.id)) (named-frame u f e a o).valid)
        (ltb-false 64 (length (add (stream_of f.id) (streams st))) z)

    go : (x : Option ℕ) → frame_check u f ≡ x → (b : Bool) → is_anonymous f.id ≡ b → ReachedJ u (judged gathering u x b i st f)
    go (some n) e b a = tt
    go none e true a = h
    go none e false a = counted e a (ltb 64 (length (add (stream_of f.id) (streams st)))) refl
