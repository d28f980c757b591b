-- The verdict against the definition: it passes what is good, and names the first frame after which no continuation could pass.
use mathlib.Core.Path.{◌≡◌, refl, sym, ap, ◌∙◌, subst}
use mathlib.Core.List.{List, [], ◌∷◌, ◌++◌, append-nil}
use mathlib.Core.Option.{none}
use Prim.Native.Nat.{ℕ, zero, suc, ◌+◌, ◌<◌}
use native.Mathlib.Omega.{arith}
use lib.Dec.{ltb}
use lib.ListN.{length, take, drop, take-append-drop}
use lib.Seq.{take-take}
use mathlib.Core.Bool.{Bool, true, false}
use borrow.Author.Tests.{ltb-true, ltb-false}
use Rattle.rules.specs.Frame.{Frame, is_anonymous, stream_of}
use Rattle.rules.specs.Setup.{Setup}
use Rattle.rules.specs.Tests.{pick}
use Rattle.judge_rules.specs.Good.{Good, CouldPass, frame_check, add}
use Rattle.judge_rules.specs.Laws.{Bytes, JudgeLaws}
use Rattle.judge_rules.specs.Verdict.{Followed, Next, goes, refuses, Entry, streams, state_of, Judging, on, off, entered, Follower, named, judged, advance, run, gathering, pass, fail, verdict_of, verdict_by, verdict}
use Rattle.judge_rules.proofs.Streams.{followed, Reached, Rest, Passing, off-stays, sound-from, complete-from}
use mathlib.Core.Option.{Option, some}

-- ── good, and passing ──

pub begun : (u : Setup) → Reached u []
unfolding streams state_of
begun u = record { count = omega arith; fits = λ d. tt }

abbrev pub judgement : Setup → List Frame → Judging Followed
judgement u l = run gathering u (on 0 []) l

pub good-passes : (u : Setup) (l : List Frame) → Good u l → Passing (judgement u l)
unfolding streams state_of
good-passes u l g = complete-from u l 0 [] (record { checks = g.checks; few = g.few; flows = g.streams })

pub passes-good : (u : Setup) (l : List Frame) → Bytes l → Passing (judgement u l) → Good u l
unfolding streams state_of
passes-good u l b p =
    let r : Rest u [] l = sound-from u l 0 [] (begun u) b p in
    record { checks = r.checks; few = r.few; streams = r.flows }

pub passing-pass : (j : Judging Followed) → Passing j → verdict_of j ≡ pass
passing-pass (on i st) p = refl
passing-pass (off n i) p = absurd p

pass-passing : (j : Judging Followed) → verdict_of j ≡ pass → Passing j
pass-passing (on i st) e = tt
pass-passing (off n i) e = let z : ◌≡◌ {A = ℕ} 0 1 = cc in absurd (omega arith)

-- ── beginnings ──

pub run-append : (F : Follower) (u : Setup) (j : Judging F.State) (a b : List Frame) → run F u j (a ++ b) ≡ run F u (run F u j a) b
unfolding run
run-append F u j [] b = refl
run-append F u j (f ∷ a) b = run-append F u (advance F u j f) a b

passing-before : (u : Setup) (j : Judging Followed) (l : List Frame) → Passing (run gathering u j l) → Passing j
passing-before u (on i st) l p = tt
passing-before u (off n i) l p = subst Passing (off-stays gathering u n i l) p

beginning : (u : Setup) (l more : List Frame) → Bytes l → Good u (l ++ more) → Good u l
beginning u l more b g =
    passes-good u l b (passing-before u (judgement u l) more (subst Passing (run-append gathering u (on 0 []) l more) (good-passes u (l ++ more) g)))

could-good : (u : Setup) (l : List Frame) → Bytes l → CouldPass u l → Good u l
could-good u l b c = beginning u l c.continuation b c.good

good-could : (u : Setup) (l : List Frame) → Good u l → CouldPass u l
good-could u l g = record { continuation = []; good = subst (Good u) (sym (append-nil l)) g }

bytes_take : (n : ℕ) (l : List Frame) → Bytes l → Bytes (take n l)
bytes_take zero l b = tt
bytes_take (suc n) [] b = tt
bytes_take (suc n) (f ∷ l) b = (b.0, bytes_take n l b.1)

-- what is good could be gone on from any of its beginnings
could-take : (u : Setup) (l : List Frame) (n : ℕ) → Good u l → CouldPass u (take n l)
could-take u l n g = record { continuation = drop n l; good = subst (Good u) (sym (take-append-drop n l)) g }

-- ── where it stops ──

-- a step goes one frame on, or stops there
abbrev pub Steps : ℕ → Judging Followed → Type 0
Steps k (on i st) = i ≡ suc k
Steps k (off n i) = i ≡ k

pub steps : (u : Setup) (k : ℕ) (st : List (Entry Followed)) (f : Frame) → Steps k (advance gathering u (on k st) f)
unfolding advance judged named entered
steps u k st f = go (frame_check u f) (is_anonymous f.id)
  where
    next : (n : Next Followed) → Steps k (entered k (stream_of f.id) st n)
    next (goes s) = refl
    next (refuses n) = refl

    counted : (b : Bool) (n : Next Followed) → Steps k (pick b (off 9 k) (entered k (stream_of f.id) st n))
    counted true n = refl
    counted false n = next n

    go : (o : Option ℕ) (b : Bool) → Steps k (judged gathering u o b k st f)
    go (some n) b = refl
    go none true = refl
    go none false =
        counted (ltb 64 (length (add (stream_of f.id) (streams st))))
        (followed u st f)

pub record Stops (u : Setup) (k : ℕ) (st : List (Entry Followed)) (l : List Frame) (n i : ℕ) : Type 0 where
  pub m : ℕ
  pub at : i ≡ k + m
  pub inside : m < length l
  pub before : Passing (run gathering u (on k st) (take m l))
  pub there : run gathering u (on k st) (take (suc m) l) ≡ off n i

pub off-same : (n i n' i' : ℕ) → ◌≡◌ {A = Judging Followed} (off n i) (off n' i') → (n ≡ n') × (i ≡ i')
off-same n i n' i' e = (cc, cc)

pub stops : (u : Setup) (l : List Frame) (k : ℕ) (st : List (Entry Followed)) (n i : ℕ) → run gathering u (on k st) l ≡ off n i → Stops u k st l n i
unfolding run
stops u [] k st n i e = let z : ◌≡◌ {A = ℕ} 0 1 = cc in absurd (omega arith)
stops u (f ∷ l) k st n i e = go (advance gathering u (on k st) f) refl (steps u k st f) e (λ st e. stops u l (suc k) st n i e)
  where
    go : (j : Judging Followed) → advance gathering u (on k st) f ≡ j → Steps k j → run gathering u j l ≡ off n i
        → ((st : List (Entry Followed)) → run gathering u (on (suc k) st) l ≡ off n i → Stops u (suc k) st l n i) → Stops u k st (f ∷ l) n i
    go (off a b) q s r ih =
        let w : off a b ≡ off n i = sym (off-stays gathering u a b l) ∙ r in
        let v : b ≡ i = (off-same a b n i w).1 in
        record { m = 0; at = omega arith; inside = omega arith; before = tt; there = q ∙ w }
    go (on a st') q s r ih =
        let t : Stops u (suc k) st' l n i = ih st' (subst (λ x. run gathering u (on x st') l ≡ off n i) s r) in
        let w : advance gathering u (on k st) f ≡ on (suc k) st' = q ∙ ap (λ x. on x st') s in
        record {
          m = suc t.m;
          at = omega (arith, t.at);
          inside = omega (arith, t.inside);
          before = subst (λ j. Passing (run gathering u j (take t.m l))) (sym w) t.before;
          there = ap (λ j. run gathering u j (take (suc t.m) l)) w ∙ t.there;
        }

pub fail-off : (j : Judging Followed) (n i : ℕ) → verdict_of j ≡ fail n i → j ≡ off n i
fail-off (on k st) n i e = let z : ◌≡◌ {A = ℕ} 0 1 = cc in absurd (omega arith)
fail-off (off a k) n i e =
    let x : a ≡ n = cc in
    let y : k ≡ i = cc in
    λ t. off (x t) (y t)

module _ (u : Setup) (l : List Frame) (b : Bytes l) where
  pub record StopsAt (n i : ℕ) : Type 0 where
    pub inside : i < length l
    pub before : Passing (judgement u (take i l))
    pub there : judgement u (take (suc i) l) ≡ off n i

  pub stops_at : (n i : ℕ) → judgement u l ≡ off n i → StopsAt n i
  stops_at n i e =
      let s : Stops u 0 [] l n i = stops u l 0 [] n i e in
      let w : s.m ≡ i = omega (arith, s.at) in
      record {
        inside = omega (arith, s.inside);
        before = subst (λ m. Passing (judgement u (take m l))) w s.before;
        there = subst (λ m. judgement u (take (suc m) l) ≡ off n i) w s.there;
      }

  not_there : (n i : ℕ) → StopsAt n i → Good u (take (suc i) l) → ⊥
  not_there n i s g = subst Passing s.there (good-passes u (take (suc i) l) g)

  first-at : (n i : ℕ) → StopsAt n i → (i < length l) × (CouldPass u (take i l) × (CouldPass u (take (suc i) l) → ⊥))
  first-at n i s = (
    s.inside,
    (
      good-could u (take i l) (passes-good u (take i l) (bytes_take i l b) s.before),
      λ c. not_there n i s (could-good u (take (suc i) l) (bytes_take (suc i) l b) c),
    ),
  )

  -- two such frames are one
  only : (n j i : ℕ) → StopsAt n j → CouldPass u (take i l) → (CouldPass u (take (suc i) l) → ⊥) → j ≡ i
  only n j i s c x = go (ltb j i) refl (ltb i j) refl
    where
      go : (p : Bool) → ltb j i ≡ p → (q : Bool) → ltb i j ≡ q → j ≡ i
      go true e q r =
          let h : j < i = ltb-true j i e in
          let g : Good u (take i l) = could-good u (take i l) (bytes_take i l b) c in
          let k : CouldPass u (take (suc j) l) = subst (CouldPass u) (take-take (suc j) i l h) (could-take u (take i l) (suc j) g) in
          absurd (not_there n j s (could-good u (take (suc j) l) (bytes_take (suc j) l b) k))
      go false e true r =
          let h : i < j = ltb-true i j r in
          let g : Good u (take j l) = passes-good u (take j l) (bytes_take j l b) s.before in
          absurd (x (subst (CouldPass u) (take-take (suc i) j l h) (could-take u (take j l) (suc i) g)))
      go false e false r = omega (arith, ltb-false j i e, ltb-false i j r)

  named-at : (i : ℕ) → CouldPass u (take i l) → (CouldPass u (take (suc i) l) → ⊥) → (n : ℕ) × (verdict_of (judgement u l) ≡ fail n i)
  named-at i c x = go (judgement u l) refl
    where
      go : (j : Judging Followed) → judgement u l ≡ j → (n : ℕ) × (verdict_of j ≡ fail n i)
      go (on k st) e = absurd (x (could-take u l (suc i) (passes-good u l b (subst Passing (sym e) tt))))
      go (off n k) e = (n, ap (fail n) (only n k i (stops_at n k e) c x))

pub judge-laws : JudgeLaws
unfolding verdict verdict_by
judge-laws = record {
  passes = λ u l b. (λ e. passes-good u l b (pass-passing (judgement u l) e), λ g. passing-pass (judgement u l) (good-passes u l g));
  beginning = beginning;
  could = λ u l b. (could-good u l b, good-could u l);
  first = λ u l n i b e. first-at u l b n i (stops_at u l b n i (fail-off (judgement u l) n i e));
  named = λ u l i b h c x. named-at u l b i c x;
}
