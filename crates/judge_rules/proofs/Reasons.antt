-- The number of a failure.
use mathlib.Core.Path.{◌≡◌, refl, sym, ap, ◌∙◌, subst}
use mathlib.Core.Bool.{Bool, true, false, not, false≢true}
use mathlib.Core.List.{List, [], ◌∷◌, ◌++◌, append_assoc, append-nil}
use mathlib.Core.Option.{Option, none, some}
use mathlib.Mathlib.Data.Bool.Basic.{and_elim_left, and_elim_right, and_intro}
use Prim.Native.Nat.{ℕ, suc, ◌≤◌, ◌<◌}
use native.Mathlib.Omega.{arith}
use lib.Dec.{ltb, leb, eqb}
use lib.ListN.{length, length-append}
use borrow.Author.Tests.{eqb-true, eq-eqb, ltb-true, ltb-false, lt-ltb}
use Rattle.bits.specs.Order.{odd}
use Rattle.rules.specs.Condition3.{keep}
use Rattle.rules.specs.Frame.{Frame, Stream, same_stream, stream_of, is_anonymous, tail_of, payload_of, is_start, is_end, toggle_of, transfer_of}
use Rattle.rules.specs.Sent.{id_of}
use Rattle.rules.specs.Session.{sum_ok}
use Rattle.rules.specs.Setup.{Setup}
use Rattle.rules.specs.Tests.{pick, same_bool}
use Rattle.rules.proofs.Delivery.{same_self}
use Rattle.rules.proofs.Table.{same_refl, same-eq}
use Rattle.judge_rules.specs.Good.{data_of, Before, as_before, may_follow, Series, all_frames, signature_of, frame_check, of_stream, add, streams_in, Good}
use Rattle.judge_rules.specs.Laws.{Bytes}
use Rattle.judge_rules.specs.Numbers.{brought, On, brought_with, Counted, Reason, check, stream, long, differs, other, NumberLaws}
use Rattle.judge_rules.specs.Verdict.{seen, Followed, idle, amid, Next, goes, refuses, opened, begins, continues, extends, follow, Entry, streams, state_of, put, Judging, on, off, entered, named, judged, advance, run, gathering, verdict_by, verdict}
use Rattle.judge_rules.proofs.Following.{same-bool}
use Rattle.judge_rules.proofs.Running.{onward, walk, walk-append, state_after, walks, state-last, Last, amid-last}
use Rattle.judge_rules.proofs.Sender.{of-append}
use Rattle.judge_rules.proofs.Streams.{known, followed, Passing, off-stays, put_same, put_other, streams-put, apart, source-named}
use Rattle.judge_rules.proofs.Theorem.{judgement, good-passes, passes-good, run-append, Steps, steps, stops, off-same, fail-off, stops_at}

-- ── the state after a capture ──

streams-append : (ds : List Stream) (a b : List Frame) → streams_in ds (a ++ b) ≡ streams_in (streams_in ds a) b
unfolding streams_in
streams-append ds [] b = refl
streams-append ds (f ∷ a) b = streams-append (pick (is_anonymous f.id) ds (add (stream_of f.id) ds)) a b

record After (u : Setup) (a : List Frame) (i : ℕ) (st : List (Entry Followed)) : Type 0 where
  pub at : i ≡ length a
  pub seen-streams : streams st ≡ streams_in [] a
  pub states : (d : Stream) → 0 < d.source → walk (signature_of u d) d (idle none) (of_stream d a) ≡ goes (known d st)

abbrev AfterJ : Setup → List Frame → Judging Followed → Type 0
AfterJ u a (on i st) = After u a i st
AfterJ u a (off n i) = Unit {0}

longer : (a : List Frame) (f : Frame) → length (a ++ f ∷ []) ≡ suc (length a)
longer a f = let k = length-append a (f ∷ []) in omega arith

after-step : (u : Setup) (a : List Frame) (i : ℕ) (st : List (Entry Followed)) (f : Frame) → After u a i st → AfterJ u (a ++ f ∷ []) (advance gathering u (on i st) f)
unfolding advance judged named entered streams_in of_stream walk
after-step u a i st f h = go (frame_check u f) refl (is_anonymous f.id) refl
  where
    counted : (b : Bool) → is_anonymous f.id ≡ b → streams_in [] (a ++ f ∷ []) ≡ pick b (streams st) (add (stream_of f.id) (streams st))
    counted b e =
        streams-append [] a (f ∷ []) ∙ ap (λ ds. pick (is_anonymous f.id) ds (add (stream_of f.id) ds)) (sym h.seen-streams)
        ∙ ap (λ b. pick b (streams st) (add (stream_of f.id) (streams st))) e

    split : (d : Stream) (b : Bool) → same_stream (stream_of f.id) d ≡ b → of_stream d (a ++ f ∷ []) ≡ of_stream d a ++ keep b f []
    split d b e = of-append d a (f ∷ []) ∙ ap (λ b. of_stream d a ++ keep b f []) e

    unmoved : (d : Stream) → 0 < d.source → same_stream (stream_of f.id) d ≡ false
        → walk (signature_of u d) d (idle none) (of_stream d (a ++ f ∷ [])) ≡ goes (known d st)
    unmoved d n e = ap (walk (signature_of u d) d (idle none)) (split d false e ∙ append-nil (of_stream d a)) ∙ h.states d n

    moved : (n : Next Followed) → followed u st f ≡ n
        → frame_check u f ≡ none → is_anonymous f.id ≡ false → AfterJ u (a ++ f ∷ []) (entered i (stream_of f.id) st n)
    moved (refuses n) q e k = tt
    moved (goes s) q e k = record {
      at = ap suc h.at ∙ sym (longer a f);
      seen-streams = streams-put (stream_of f.id) s st ∙ sym (counted false k);
      states = λ d n. state-at d n (same_stream (stream_of f.id) d) refl;
    }
      where
        own : walk (signature_of u (stream_of f.id)) (stream_of f.id) (idle none) (of_stream (stream_of f.id) (a ++ f ∷ [])) ≡ goes (known (stream_of f.id) (put (stream_of f.id) s st))
        own =
            ap (walk (signature_of u (stream_of f.id)) (stream_of f.id) (idle none)) (split (stream_of f.id) true (same_refl (stream_of f.id)))
            ∙ walk-append (signature_of u (stream_of f.id)) (stream_of f.id) (idle none) (of_stream (stream_of f.id) a) (f ∷ [])
            ∙ ap (λ n. onward (signature_of u (stream_of f.id)) (stream_of f.id) n (λ s. walk (signature_of u (stream_of f.id)) (stream_of f.id) s (f ∷ [])))
            (h.states (stream_of f.id) (source-named u f e k))
            ∙ ap (λ n. onward (signature_of u (stream_of f.id)) (stream_of f.id) n (λ s. goes s)) q
            ∙ ap goes (sym (put_same (idle none) (stream_of f.id) s st))

        state-at : (d : Stream) → 0 < d.source → (b : Bool) → same_stream (stream_of f.id) d ≡ b
            → walk (signature_of u d) d (idle none) (of_stream d (a ++ f ∷ [])) ≡ goes (known d (put (stream_of f.id) s st))
        state-at d n true z =
            subst (λ d. walk (signature_of u d) d (idle none) (of_stream d (a ++ f ∷ [])) ≡ goes (known d (put (stream_of f.id) s st))) (same-eq (stream_of f.id) d z) own
        state-at d n false z = unmoved d n z ∙ ap goes (sym (put_other (idle none) (stream_of f.id) d s st z))

    room : (b : Bool) → frame_check u f ≡ none → is_anonymous f.id ≡ false
        → AfterJ u (a ++ f ∷ []) (pick b (off 9 i) (entered i (stream_of f.id) st (followed u st f)))
    room true e k = tt
    room false e k = moved (followed u st f) refl e k

    go : (o : Option ℕ) → frame_check u f ≡ o → (b : Bool) → is_anonymous f.id ≡ b → AfterJ u (a ++ f ∷ []) (judged gathering u o b i st f)
    go (some n) e b k = tt
    go none e true k = record {
      at = ap suc h.at ∙ sym (longer a f);
      seen-streams = sym (counted true k);
      states = λ d n. unmoved d n (apart f d k n);
    }
    go none e false k = room (ltb 64 (length (add (stream_of f.id) (streams st)))) e k

after_run : (u : Setup) (l a : List Frame) (j : Judging Followed) → AfterJ u a j → AfterJ u (a ++ l) (run gathering u j l)
unfolding run
after_run u [] a j h = subst (λ l. AfterJ u l j) (sym (append-nil a)) h
after_run u (f ∷ l) a (on i st) h =
    subst (λ z. AfterJ u z (run gathering u (advance gathering u (on i st) f) l)) (append_assoc a (f ∷ []) l) (after_run u l (a ++ f ∷ []) (advance gathering u (on i st) f) (after-step u a i st f h))
after_run u (f ∷ l) a (off n i) h = subst (AfterJ u (a ++ f ∷ l)) (sym (off-stays gathering u n i (f ∷ l))) tt

begun : (u : Setup) → After u [] 0 []
unfolding streams streams_in state_of walk of_stream
begun u = record { at = refl; seen-streams = refl; states = λ d n. refl }

after-all : (u : Setup) (a : List Frame) → AfterJ u a (judgement u a)
after-all u a = after_run u a [] (on 0 []) (begun u)

-- ── the number, from the state ──

goes_same : (a b : Followed) → goes a ≡ goes b → a ≡ b
goes_same a b e = cc

module _ (u : Setup) (a : List Frame) (f : Frame) (i : ℕ) (st : List (Entry Followed)) (h : After u a i st) (g : Good u a) where
  abbrev d : Stream
  d = stream_of f.id

  abbrev sig : ℕ
  sig = signature_of u d

  abbrev ReasonN : Next Followed → Type 0
  ReasonN (goes s) = Unit {0}
  ReasonN (refuses n) = Reason u a f n

  abbrev ReasonJ : Judging Followed → Type 0
  ReasonJ (on i st) = Unit {0}
  ReasonJ (off n i) = Reason u a f n

  -- a frame that goes on shows the state
  shown : 0 < d.source → (x : On u a f)
      → known d st ≡ amid (id_of d x.transfer.priority) (as_before x.transfer) (odd (length x.transfer.times)) (brought sig x.transfer)
  shown n x =
      let c : ltb (length x.transfer.times) (length (data_of sig x.transfer)) ≡ true = lt-ltb (length x.transfer.times) (length (data_of sig x.transfer)) x.cut in
      goes_same (known d st) (amid (id_of d x.transfer.priority) (as_before x.transfer) (odd (length x.transfer.times)) (brought sig x.transfer))
      (sym (h.states d n) ∙ ap (walk sig d (idle none)) x.frames ∙ walks sig d none (x.before ++ x.transfer ∷ []) x.series
      ∙ ap goes (state-last sig d none x.before x.transfer
      ∙ ap (λ b. pick b (amid (id_of d x.transfer.priority) (as_before x.transfer) (odd (length x.transfer.times)) (brought sig x.transfer)) (idle (some (as_before x.transfer)))) c))

  -- and the state shows the transfer
  behind : (n : 0 < d.source) (id : ℕ) (b : Before) (toggle : Bool) (gathered : List ℕ) → known d st ≡ amid id b toggle gathered
      → Last sig d (g.streams d n).transfers id b toggle gathered
  behind n id b toggle gathered e =
      amid-last sig d none (g.streams d n).transfers id b toggle gathered
      (goes_same (state_after sig d none (g.streams d n).transfers) (amid id b toggle gathered)
      (sym (walks sig d none (g.streams d n).transfers (g.streams d n).series) ∙ ap (walk sig d (idle none)) (sym (g.streams d n).frames) ∙ h.states d n ∙ ap goes e))

  classify : Counted u a f → (n : 0 < d.source) → (s : Followed) → known d st ≡ s → ReasonN (follow sig d s (seen f))
  unfolding follow begins extends seen
  classify so n (idle b) e = go (is_start (tail_of f.bytes)) (may_follow d b (transfer_of (tail_of f.bytes)) f.time)
    where
      never : On u a f → ⊥
      never x =
          let k = shown n x in
          let z : ◌≡◌ {A = ℕ} 0 1 = cc in
          omega arith

      go : (x y : Bool) → ReasonN (pick x (pick y (goes (opened (seen f))) (refuses 24)) (refuses 24))
      go true true = tt
      go true false = other so (λ x. absurd (never x))
      go false y = other so (λ x. absurd (never x))
  classify so n (amid id b toggle gathered) e = go (is_start (tail_of f.bytes)) refl (continues id b toggle (seen f)) refl
    where
      same : (x : On u a f) → amid id b toggle gathered ≡ amid (id_of d x.transfer.priority) (as_before x.transfer) (odd (length x.transfer.times)) (brought sig x.transfer)
      same x = sym e ∙ shown n x

      bytes : (x : On u a f) → gathered ≡ brought sig x.transfer
      bytes x = let k = same x in cc

      must : (x : On u a f) → continues id b toggle (seen f) ≡ true
      must x =
          let k = same x in
          let e1 : id ≡ id_of d x.transfer.priority = cc in
          let e2 : b ≡ as_before x.transfer = cc in
          let e3 : toggle ≡ odd (length x.transfer.times) = cc in
          and_intro (eq-eqb id f.id (e1 ∙ sym x.id))
          (and_intro (eq-eqb b.transfer (transfer_of (tail_of f.bytes)) (ap (λ (z : Before). z.transfer) e2 ∙ sym x.number))
          (ap (λ z. same_bool z (toggle_of (tail_of f.bytes))) (e3 ∙ sym x.toggle) ∙ same_self (toggle_of (tail_of f.bytes))))

      goes_on : is_start (tail_of f.bytes) ≡ false → continues id b toggle (seen f) ≡ true → On u a f
      goes_on q c =
          let l = behind n id b toggle gathered e in
          let c2 = and_elim_right (eqb id f.id) _ c in
          record {
            before = l.before;
            transfer = l.transfer;
            series = subst (Series sig d none) l.is (g.streams d n).series;
            frames = (g.streams d n).frames ∙ ap (all_frames sig d) l.is;
            cut = l.cut;
            start = q;
            id = sym (eqb-true id f.id (and_elim_left _ _ c)) ∙ l.id-is;
            number = sym (eqb-true b.transfer (transfer_of (tail_of f.bytes)) (and_elim_left _ _ c2)) ∙ l.number;
            toggle = sym (same-bool toggle (toggle_of (tail_of f.bytes)) (and_elim_right (eqb b.transfer (transfer_of (tail_of f.bytes))) _ c2)) ∙ l.toggle-is;
          }

      ended : is_start (tail_of f.bytes) ≡ false → continues id b toggle (seen f) ≡ true
          → (x : Bool) → ltb 514 (length (gathered ++ payload_of f.bytes)) ≡ x → (l : Bool) → is_end (tail_of f.bytes) ≡ l
          → (y : Bool) → sum_ok sig (gathered ++ payload_of f.bytes) ≡ y → (z : Bool)
          → ReasonN (pick x (refuses 11) (pick l (pick y (pick z (refuses 24) (goes (idle (some b)))) (refuses 12)) (goes (amid id b (not toggle) (gathered ++ payload_of f.bytes)))))
      ended q c true r l w y v z =
          let m = goes_on q c in
          long so m (subst (λ l. 514 < length (l ++ payload_of f.bytes)) (bytes m) (ltb-true 514 (length (gathered ++ payload_of f.bytes)) r))
      ended q c false r true w false v z =
          let m = goes_on q c in
          differs so m (subst (λ l. length (l ++ payload_of f.bytes) ≤ 514) (bytes m) (ltb-false 514 (length (gathered ++ payload_of f.bytes)) r)) w
          (λ k. false≢true (sym v ∙ ap (λ l. sum_ok sig (l ++ payload_of f.bytes)) (bytes m) ∙ k))
      ended q c false r true w true v true =
          other so (λ m. (
            subst (λ l. length (l ++ payload_of f.bytes) ≤ 514) (bytes m) (ltb-false 514 (length (gathered ++ payload_of f.bytes)) r),
            λ k. ap (λ l. sum_ok sig (l ++ payload_of f.bytes)) (sym (bytes m)) ∙ v,
          ))
      ended q c false r true w true v false = tt
      ended q c false r false w y v z = tt

      go : (x : Bool) → is_start (tail_of f.bytes) ≡ x → (c : Bool) → continues id b toggle (seen f) ≡ c
          → ReasonN (pick x (refuses 24) (pick c (extends sig id b toggle (gathered ++ payload_of f.bytes) (seen f)) (refuses 24)))
      go true q c k = other so (λ x. absurd (false≢true (sym x.start ∙ q)))
      go false q false k = other so (λ x. absurd (false≢true (sym k ∙ must x)))
      go false q true k =
          ended q k (ltb 514 (length (gathered ++ payload_of f.bytes))) refl (is_end (tail_of f.bytes)) refl (sum_ok sig (gathered ++ payload_of f.bytes)) refl
          (leb (length (gathered ++ payload_of f.bytes)) 9)

  reasons : ReasonJ (advance gathering u (on i st) f)
  unfolding advance judged named entered streams_in
  reasons = go (frame_check u f) refl (is_anonymous f.id) refl
    where
      counted : is_anonymous f.id ≡ false → streams_in [] (a ++ f ∷ []) ≡ add (stream_of f.id) (streams st)
      counted k =
          streams-append [] a (f ∷ []) ∙ ap (λ ds. pick (is_anonymous f.id) ds (add (stream_of f.id) ds)) (sym h.seen-streams)
          ∙ ap (λ b. pick b (streams st) (add (stream_of f.id) (streams st))) k

      next : (n : Next Followed) → ReasonN n → ReasonJ (entered i (stream_of f.id) st n)
      next (goes s) r = tt
      next (refuses n) r = r

      room : frame_check u f ≡ none → is_anonymous f.id ≡ false → (b : Bool) → ltb 64 (length (add (stream_of f.id) (streams st))) ≡ b
          → ReasonJ (pick b (off 9 i) (entered i (stream_of f.id) st (followed u st f)))
      room e k true q = stream e k (subst (λ ds. 64 < length ds) (sym (counted k)) (ltb-true 64 (length (add (stream_of f.id) (streams st))) q))
      room e k false q =
          next (followed u st f)
          (classify (record { checks = e; named = k; few = subst (λ ds. length ds ≤ 64) (sym (counted k)) (ltb-false 64 (length (add (stream_of f.id) (streams st))) q) })
          (source-named u f e k) (known (stream_of f.id) st) refl)

      go : (o : Option ℕ) → frame_check u f ≡ o → (b : Bool) → is_anonymous f.id ≡ b → ReasonJ (judged gathering u o b i st f)
      go (some n) e b k = check e
      go none e true k = tt
      go none e false k = room e k (ltb 64 (length (add (stream_of f.id) (streams st)))) refl

  -- ── one number alone ──

  same_bytes : 0 < d.source → (x y : On u a f) → brought sig x.transfer ≡ brought sig y.transfer
  same_bytes n x y = let k = sym (shown n x) ∙ shown n y in cc

  not-both : {n : ℕ} → frame_check u f ≡ some n → frame_check u f ≡ none → ⊥
  not-both e k = let z : ◌≡◌ {A = ℕ} 0 1 = cc in omega arith

  crowded : 64 < length (streams_in [] (a ++ f ∷ [])) → Counted u a f → ⊥
  crowded c s = omega (arith, s.few)

  too_long : Counted u a f → (x y : On u a f) → 514 < length (brought_with u f x.transfer) → length (brought_with u f y.transfer) ≤ 514 → ⊥
  too_long s x y c k =
      let e = ap (λ l. length (l ++ payload_of f.bytes)) (same_bytes (source-named u f s.checks s.named) x y) in
      omega arith

  one : {m n : ℕ} → Reason u a f m → Reason u a f n → m ≡ n
  one (check e) (check k) = cc
  one (check e) (stream k a c) = absurd (not-both e k)
  one (check e) (long s g c) = absurd (not-both e s.checks)
  one (check e) (differs s g c l w) = absurd (not-both e s.checks)
  one (check e) (other s c) = absurd (not-both e s.checks)
  one (stream k a c) (check e) = absurd (not-both e k)
  one (stream k a c) (stream k' a' c') = refl
  one (stream k a c) (long s g c') = absurd (crowded c s)
  one (stream k a c) (differs s g c' l w) = absurd (crowded c s)
  one (stream k a c) (other s c') = absurd (crowded c s)
  one (long s g c) (check e) = absurd (not-both e s.checks)
  one (long s g c) (stream k a c') = absurd (crowded c' s)
  one (long s g c) (long s' g' c') = refl
  one (long s g c) (differs s' g' c' l w) = absurd (too_long s g g' c c')
  one (long s g c) (other s' c') = absurd (omega (arith, (c' g).0))
  one (differs s g c l w) (check e) = absurd (not-both e s.checks)
  one (differs s g c l w) (stream k a c') = absurd (crowded c' s)
  one (differs s g c l w) (long s' g' c') = absurd (too_long s g' g c' c)
  one (differs s g c l w) (differs s' g' c' l' w') = refl
  one (differs s g c l w) (other s' c') = absurd (w ((c' g).1 l))
  one (other s c) (check e) = absurd (not-both e s.checks)
  one (other s c) (stream k a c') = absurd (crowded c' s)
  one (other s c) (long s' g' c') = absurd (omega (arith, (c g').0))
  one (other s c) (differs s' g' c' l w) = absurd (w ((c g').1 l))
  one (other s c) (other s' c') = refl

one_at : (u : Setup) (a : List Frame) (f : Frame) (m n : ℕ) → Good u a → Reason u a f m → Reason u a f n → m ≡ n
one_at u a f m n g x y = go (judgement u a) (good-passes u a g) (after-all u a)
  where
    go : (j : Judging Followed) → Passing j → AfterJ u a j → m ≡ n
    go (on i st) p h = one u a f i st h g x y
    go (off k i) p h = absurd p

-- ── the number, from the verdict ──

bytes-front : (a b : List Frame) → Bytes (a ++ b) → Bytes a
bytes-front [] b h = tt
bytes-front (f ∷ a) b h = (h.0, bytes-front a b h.1)

reason-at : (u : Setup) (a : List Frame) (f : Frame) (more : List Frame) (n : ℕ) → Bytes (a ++ f ∷ more) → judgement u (a ++ f ∷ more) ≡ off n (length a) → Reason u a f n
unfolding run
reason-at u a f more n bs e = go (judgement u a) refl (sym (run-append gathering u (on 0 []) a (f ∷ more)) ∙ e) (after-all u a)
  where
    here : (i : ℕ) (st : List (Entry Followed)) → After u a i st → Good u a → (j : Judging Followed) → advance gathering u (on i st) f ≡ j → Steps i j → run gathering u j more ≡ off n (length a) → Reason u a f n
    here i st h g (off n' i') q s r =
        subst (Reason u a f) (off-same n' i' n (length a) (sym (off-stays gathering u n' i' more) ∙ r)).0 (subst (ReasonJ u a f i st h g) q (reasons u a f i st h g))
    here i st h g (on i' st') q s r =
        let t = stops u more i' st' n (length a) r in
        absurd (omega (arith, t.at, h.at))

    go : (j : Judging Followed) → judgement u a ≡ j → run gathering u j (f ∷ more) ≡ off n (length a) → AfterJ u a j → Reason u a f n
    go (off n' i') q r h =
        let w : i' ≡ length a = (off-same n' i' n (length a) (sym (off-stays gathering u n' i' (f ∷ more)) ∙ r)).1 in
        let s = stops_at u a (bytes-front a (f ∷ more) bs) n' i' q in
        absurd (omega (arith, s.inside))
    go (on i st) q r h =
        here i st h (passes-good u a (bytes-front a (f ∷ more) bs) (subst Passing (sym q) tt)) (advance gathering u (on i st) f) refl (steps u i st f) r

pub number-laws : NumberLaws
unfolding verdict verdict_by
number-laws = record { reason = λ u a f more n bs e. reason-at u a f more n bs (fail-off (judgement u (a ++ f ∷ more)) n (length a) e); only = one_at }
