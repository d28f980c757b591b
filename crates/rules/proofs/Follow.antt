-- A whole list: one receiver answers the stream's frames as the reference that hears them alone, as far as the premises go.
use mathlib.Core.Path.{◌≡◌, refl, ap, ◌∙◌}
use mathlib.Core.Bool.{Bool, true, false, false≢true, not}
use mathlib.Core.List.{List, [], ◌∷◌}
use mathlib.Mathlib.Data.Bool.Basic.{and_elim_left, and_elim_right, and_intro}
use Prim.Native.Nat.{ℕ, zero, suc, ◌≤◌, ◌<◌}
use lib.Dec.{leb, eqb}
use lib.ListN.{length, take}
use borrow.Author.Tests.{leb-true}
use Rattle.rules.specs.Answer.{Answer, full, no_block, number_of}
use Rattle.rules.specs.Check.{Reception, parsed}
use Rattle.rules.specs.Condition3.{of_stream, start_of, keep, frames_with, answers_to, up_to, forward, roomy, never, rules_table}
use Rattle.rules.specs.Frame.{Frame, Stream}
use Rattle.rules.specs.Reception.{step}
use Rattle.rules.specs.Session.{Session}
use Rattle.rules.specs.Setup.{Setup}
use Rattle.rules.specs.Table.{Places}
use Rattle.rules.specs.Tests.{pick}
use Rattle.rules.proofs.Others.{others-kept, sole-step}
use Rattle.rules.proofs.Own.{ref, ref_run, Beside, later, beside-kept, own}
use Rattle.rules.proofs.Table.{Sole}

-- ── the front of a list ──

module _ (t : Frame → Bool) (u : Setup) where
  pub frames-upto : (l : List Reception) (k : ℕ) → frames_with (rules_table u) t (up_to (rules_table u) t l k) ≡ take k (frames_with (rules_table u) t l)
  unfolding frames_with up_to
  frames-upto [] zero = refl
  frames-upto [] (suc k) = refl
  frames-upto (r ∷ rs) zero = refl
  frames-upto (r ∷ rs) (suc k) = go (t r.arrival.frame) (λ n. frames-upto rs n)
    where
      go : (b : Bool) → ((n : ℕ) → frames_with (rules_table u) t (up_to (rules_table u) t rs n) ≡ take n (frames_with (rules_table u) t rs))
          → keep b r.arrival (frames_with (rules_table u) t (up_to (rules_table u) t rs (pick b k (suc k)))) ≡ take (suc k) (keep b r.arrival (frames_with (rules_table u) t rs))
      go true ih = ap (λ fs. r.arrival ∷ fs) (ih k)
      go false ih = ih (suc k)

  pub answers-upto : (ps : Places) (l : List Reception) (k : ℕ) → answers_to (rules_table u) t ps (up_to (rules_table u) t l k) ≡ take k (answers_to (rules_table u) t ps l)
  unfolding answers_to up_to
  answers-upto ps [] zero = refl
  answers-upto ps [] (suc k) = refl
  answers-upto ps (r ∷ rs) zero = refl
  answers-upto ps (r ∷ rs) (suc k) = go (t r.arrival.frame) (λ n. answers-upto (step u ps r).places rs n)
    where
      go : (b : Bool) → ((n : ℕ) → answers_to (rules_table u) t (step u ps r).places (up_to (rules_table u) t rs n) ≡ take n (answers_to (rules_table u) t (step u ps r).places rs))
          → keep b (step u ps r).answer (answers_to (rules_table u) t (step u ps r).places (up_to (rules_table u) t rs (pick b k (suc k))))
          ≡ take (suc k) (keep b (step u ps r).answer (answers_to (rules_table u) t (step u ps r).places rs))
      go true ih = ap (λ l. (step u ps r).answer ∷ l) (ih k)
      go false ih = ih (suc k)

  -- as many answers as frames
  pub answers-length : (ps : Places) (l : List Reception) → length (answers_to (rules_table u) t ps l) ≡ length (frames_with (rules_table u) t l)
  unfolding answers_to frames_with
  answers-length ps [] = refl
  answers-length ps (r ∷ rs) = go (t r.arrival.frame) (answers-length (step u ps r).places rs)
    where
      go : (b : Bool) → length (answers_to (rules_table u) t (step u ps r).places rs) ≡ length (frames_with (rules_table u) t rs)
          → length (keep b (step u ps r).answer (answers_to (rules_table u) t (step u ps r).places rs)) ≡ length (keep b r.arrival (frames_with (rules_table u) t rs))
      go true ih = ap suc ih
      go false ih = ih

-- ── all of a list ──

not_full : (u : Setup) (b : Bool) (a : Answer) (l : List Answer) → never (rules_table u) 9 (keep b a l) ≡ true → b ≡ true → a ≡ full → ⊥
not_full u true a l h e q = false≢true (rw q at (and_elim_left (not (eqb (number_of a) 9)) (never (rules_table u) 9 l) h))
not_full u false a l h e q = false≢true e

not-blocked : (u : Setup) (b : Bool) (a : Answer) (l : List Answer) → never (rules_table u) 26 (keep b a l) ≡ true → b ≡ true → a ≡ no_block → ⊥
not-blocked u true a l h e q = false≢true (rw q at (and_elim_left (not (eqb (number_of a) 26)) (never (rules_table u) 26 l) h))
not-blocked u false a l h e q = false≢true e

rest-never : (u : Setup) (b : Bool) (n : ℕ) (a : Answer) (l : List Answer) → never (rules_table u) n (keep b a l) ≡ true → never (rules_table u) n l ≡ true
rest-never u true n a l h = and_elim_right (not (eqb (number_of a) n)) (never (rules_table u) n l) h
rest-never u false n a l h = h

module _ (u : Setup) (d : Stream) (named : 0 < d.source) where
  pub follow : (t : ℕ) (ps : Places) (s : Session) (l : List Reception) → forward (rules_table u) t l ≡ true → roomy (rules_table u) d l ≡ true
      → never (rules_table u) 9 (answers_to (rules_table u) (start_of d) ps l) ≡ true → never (rules_table u) 26 (answers_to (rules_table u) (of_stream d) ps l) ≡ true
      → Sole ps → Beside d t ps s
      → answers_to (rules_table u) (of_stream d) ps l ≡ ref_run u s (frames_with (rules_table u) (of_stream d) l)
  unfolding answers_to frames_with ref_run parsed Sole
  follow t ps s [] fw ro nf nb sole beside = refl
  follow t ps s (r ∷ rs) fw ro nf nb sole beside =
      go (of_stream d r.arrival.frame) refl
      (λ x b. follow r.arrival.frame.time (step u ps r).places x rs (and_elim_right (leb t r.arrival.frame.time) _ fw)
      (and_elim_right (pick (of_stream d r.arrival.frame) (leb 512 r.room) true) _ ro)
      (rest-never u (start_of d r.arrival.frame) 9 (step u ps r).answer _ nf)
      (rest-never u (of_stream d r.arrival.frame) 26 (step u ps r).answer _ nb) (sole-step u ps r sole) b)
    where
      onward : t ≤ r.arrival.frame.time
      onward = leb-true t r.arrival.frame.time (and_elim_left _ _ fw)

      go : (b : Bool) → of_stream d r.arrival.frame ≡ b
          → ((x : Session) → Beside d r.arrival.frame.time (step u ps r).places x → answers_to (rules_table u) (of_stream d) (step u ps r).places rs ≡ ref_run u x (frames_with (rules_table u) (of_stream d) rs))
          → keep b (step u ps r).answer (answers_to (rules_table u) (of_stream d) (step u ps r).places rs) ≡ ref_run u s (keep b r.arrival (frames_with (rules_table u) (of_stream d) rs))
      go true e ih =
          let room : pick (of_stream d r.arrival.frame) (leb 512 r.room) true ≡ true = and_elim_left _ _ ro in
          let a = own u d t ps s r sole named e onward (leb-true 512 r.room (rw e at room)) beside
          (λ st. not_full u (start_of d r.arrival.frame) (step u ps r).answer _ nf (and_intro e st))
          (not-blocked u (of_stream d r.arrival.frame) (step u ps r).answer _ nb e) in
          ap (λ k. k ∷ answers_to (rules_table u) (of_stream d) (step u ps r).places rs) a.answer
          ∙ ap (λ k. (ref u s r.arrival).answer ∷ k) (ih (ref u s r.arrival).session a.beside)
      go false e ih = ih s (beside-kept (others-kept u d ps r sole e) (later r.arrival.frame.time onward beside))
