-- The frames of a payload at a receiver that they are for: the start passes the checks and is sorted, and no other is a start.
use mathlib.Core.Path.{◌≡◌, refl, sym, ap, ◌∙◌, subst}
use mathlib.Core.Bool.{Bool, true, false, true≢false, not, ◌&&◌, ◌||◌}
use mathlib.Core.List.{List, [], ◌∷◌, map, nil≢cons, cons≢nil, head-eq_of_cons-eq, tail-eq_of_cons-eq}
use mathlib.Core.Option.{some}
use mathlib.Mathlib.Data.Bool.Basic.{and_intro}
use Prim.Native.Nat.{ℕ, zero, suc, ◌+◌, ◌^◌, ◌≤◌, ◌<◌}
use native.Mathlib.Omega.{arith}
use lib.Dec.{eqb}
use lib.ListN.{length, take, drop}
use lib.Seq.{length-take-le}
use borrow.Author.Tests.{eq-eqb, ne_eqb, lt-ltb, le-ltb, le-leb, lt-leb, eqb-true, eqb-false}
use Rattle.rules.specs.Answer.{Answer}
use Rattle.rules.specs.Check.{Reception, bad_tail}
use Rattle.rules.specs.Condition3.{of_stream, start_of, keep, All, frames_with, answers_to, up_to, forward, roomy, Brings, done, next, beside, rules_table}
use Rattle.rules.specs.Frame.{Frame, Arrival, Stream, same_stream, stream_of, tail_of, is_start, is_end, toggle_of}
use Rattle.rules.specs.Limits.{interfaces_max, switch_delay}
use Rattle.rules.specs.Reception.{step}
use Rattle.rules.specs.Sending as sending
use Rattle.rules.specs.Sending.{Call}
use Rattle.rules.specs.SendingLaws.{Hears, untimed, frames_by}
use Rattle.rules.specs.Sent.{tail_byte, framed, pieces, carrying, frame_at, arrival_at}
use Rattle.rules.specs.Setup.{kind_of, Setup, subscribed, signature_for}
use Rattle.rules.specs.Sound.{places_fit}
use Rattle.rules.specs.Table.{Places}
use Rattle.rules.specs.Tests.{is_none}
use Rattle.rules.proofs.Checks.{Accepted, none_of, roomy-check, named-not-anonymous}
use Rattle.rules.proofs.Frames.{framed-length, framed-tail, fulls}
use Rattle.rules.proofs.Ids.{bit_is, flag-le}
use Rattle.rules.proofs.Reasons.{Sorted, sorts-step}
use Rattle.rules.proofs.Table.{same_refl}

-- ── the frames of a payload: a start, and no other ──

abbrev pub NoStart : List (List ℕ) → Type 0
NoStart [] = Unit {0}
NoStart (c ∷ more) = (is_start (tail_of c) ≡ false) × NoStart more

module _ (t : ℕ) (small : t < 32) where
  pub starts : (xs : List ℕ) (s l g : Bool) → is_start (tail_of (framed xs (tail_byte s l g t))) ≡ s
  starts xs s l g =
      ap is_start (framed-tail xs (tail_byte s l g t)) ∙ bit_is (tail_byte s l g t) 128 s (omega (arith, flag-le s, flag-le l, flag-le g))

  ends : (xs : List ℕ) (s l g : Bool) → is_end (tail_of (framed xs (tail_byte s l g t))) ≡ l
  ends xs s l g = ap is_end (framed-tail xs (tail_byte s l g t)) ∙ bit_is (tail_byte s l g t) 64 l (omega (arith, flag-le s, flag-le l, flag-le g))

  toggles : (xs : List ℕ) (s l g : Bool) → toggle_of (tail_of (framed xs (tail_byte s l g t))) ≡ g
  toggles xs s l g = ap toggle_of (framed-tail xs (tail_byte s l g t)) ∙ bit_is (tail_byte s l g t) 32 g (omega (arith, flag-le s, flag-le l, flag-le g))

  later : (n : ℕ) (g : Bool) (xs : List ℕ) → NoStart (pieces n false g t xs)
  unfolding pieces
  later zero g xs = (starts xs false true g, tt)
  later (suc n) g xs = (starts (take 7 xs) false false g, later n (not g) (drop 7 xs))

  pub record Opening (l : List (List ℕ)) : Type 0 where
    pub bytes : List ℕ
    pub last : Bool
    pub rest : List (List ℕ)
    pub is : l ≡ framed bytes (tail_byte true last false t) ∷ rest
    pub most : length bytes ≤ 7
    pub whole : last ≡ false → length bytes ≡ 7
    pub later : NoStart rest

  pub opening : (xs : List ℕ) → Opening (carrying t xs)
  unfolding carrying pieces
  opening xs = go (fulls xs) refl
    where
      go : (n : ℕ) → fulls xs ≡ n → Opening (pieces n true false t xs)
      go zero e = record { bytes = xs; last = true; rest = []; is = refl; most = omega arith; whole = λ z. absurd (true≢false z); later = tt }
      go (suc n) e =
          let l : length (take 7 xs) ≡ 7 = length-take-le 7 xs (omega arith) in
          record {
            bytes = take 7 xs;
            last = false;
            rest = pieces n false true t (drop 7 xs);
            is = refl;
            most = omega arith;
            whole = λ z. l;
            later = later n true (drop 7 xs);
          }

-- ── a stream's frames ──

-- one reception of each, at one time and by interface 0
abbrev pub each : ℕ → ℕ → ℕ → List (List ℕ) → List Reception
each id time space l = map (λ c. record { arrival = arrival_at 0 id c time; room = space }) l

abbrev pub arrivals_at : ℕ → ℕ → List (List ℕ) → List Arrival
arrivals_at id time l = map (λ c. arrival_at 0 id c time) l

abbrev pub frames_at : ℕ → ℕ → List (List ℕ) → List Frame
frames_at id time l = map (λ c. frame_at id c time) l

module _ (id : ℕ) (d : Stream) (small : id < 2 ^ 29) (stream : stream_of id ≡ d) where
  pub of-it : (c : List ℕ) (time : ℕ) → of_stream d (frame_at id c time) ≡ true
  of-it c time = and_intro (lt-ltb id (2 ^ 29) small) (ap (λ x. same_stream x d) stream ∙ same_refl d)

  pub frames-each : (u : Setup) (time space : ℕ) (l : List (List ℕ)) → frames_with (rules_table u) (of_stream d) (each id time space l) ≡ arrivals_at id time l
  unfolding frames_with
  frames-each u time space [] = refl
  frames-each u time space (c ∷ l) = rw (of-it c time) (ap (λ fs. arrival_at 0 id c time ∷ fs) (frames-each u time space l))

  pub upto-each : (u : Setup) (time space : ℕ) (l : List (List ℕ)) → up_to (rules_table u) (of_stream d) (each id time space l) (length l) ≡ each id time space l
  unfolding up_to
  upto-each u time space [] = refl
  upto-each u time space (c ∷ l) = rw (of-it c time) (ap (λ rs. record { arrival = arrival_at 0 id c time; room = space } ∷ rs) (upto-each u time space l))

  pub roomy-each : (u : Setup) (time space : ℕ) → 512 ≤ space → (l : List (List ℕ)) → roomy (rules_table u) d (each id time space l) ≡ true
  roomy-each u time space h [] = refl
  roomy-each u time space h (c ∷ l) = rw (of-it c time, le-leb 512 space h) (roomy-each u time space h l)

pub forward-each : (u : Setup) (id time space : ℕ) (l : List (List ℕ)) → forward (rules_table u) time (each id time space l) ≡ true
forward-each u id time space [] = refl
forward-each u id time space (c ∷ l) = rw (le-leb time time (omega arith)) (forward-each u id time space l)

pub untimed-each : (id time : ℕ) (l : List (List ℕ)) → map untimed (frames_by 0 (arrivals_at id time l)) ≡ frames_at id 0 l
unfolding frames_by
untimed-each id time [] = refl
untimed-each id time (c ∷ l) = ap (λ fs. frame_at id c 0 ∷ fs) (untimed-each id time l)

pub soon-each : (id time : ℕ) (l : List (List ℕ)) → All (λ a. a.frame.time ≤ time + switch_delay) (arrivals_at id time l)
soon-each id time [] = tt
soon-each id time (c ∷ l) = (omega arith, soon-each id time l)

pub length-each : (id time : ℕ) (l : List (List ℕ)) → length (arrivals_at id time l) ≡ length l
length-each id time [] = refl
length-each id time (c ∷ l) = ap suc (length-each id time l)

pub brings-each : (id time : ℕ) (l : List (List ℕ)) → Brings 0 id (time + switch_delay) l (arrivals_at id time l)
brings-each id time [] = done
brings-each id time (c ∷ l) = next time (omega arith) (brings-each id time l)

-- frames that are the sent ones but for their times
module _ (id : ℕ) where
  timed : (f : Frame) (c : List ℕ) → untimed f ≡ frame_at id c 0 → frame_at id c f.time ≡ f
  timed f c e = λ i. frame_at (sym e i).id (sym e i).bytes f.time

  pub first-timed : (f : Frame) (fs : List Frame) (c : List ℕ) (l : List (List ℕ)) → map untimed (f ∷ fs) ≡ frames_at id 0 (c ∷ l) → frame_at id c f.time ≡ f
  first-timed f fs c l e = timed f c (head-eq_of_cons-eq e)

  -- those of one interface
  module _ (i till : ℕ) where
    by-it : (a : Arrival) (c : List ℕ) → eqb a.interface i ≡ true → untimed a.frame ≡ frame_at id c 0 → arrival_at i id c a.frame.time ≡ a
    by-it a c k e = λ j. record { frame = timed a.frame c e j; interface = sym (eqb-true a.interface i k) j }

    pub brings-timed : (l : List (List ℕ)) (l' : List Arrival) → map untimed (frames_by i l') ≡ frames_at id 0 l → All (λ a. a.frame.time ≤ till) l'
        → Brings i id till l l'
    unfolding frames_by
    brings-timed [] [] e h = done
    brings-timed (c ∷ l) [] e h = absurd (nil≢cons e)
    brings-timed l (a ∷ l') e h = go (eqb a.interface i) refl l e (λ k q. brings-timed k l' q h.1)
      where
        go : (b : Bool) → eqb a.interface i ≡ b → (l : List (List ℕ)) → map untimed (keep b a.frame (frames_by i l')) ≡ frames_at id 0 l
            → ((k : List (List ℕ)) → map untimed (frames_by i l') ≡ frames_at id 0 k → Brings i id till k l') → Brings i id till l (a ∷ l')
        go true k [] e rest = absurd (cons≢nil e)
        go true k (c ∷ l) e rest =
            subst (λ g. Brings i id till (c ∷ l) (g ∷ l')) (by-it a c k (head-eq_of_cons-eq e))
            (next a.frame.time h.0 (rest l (tail-eq_of_cons-eq e)))
        go false k l e rest = beside a k h.0 (rest l e)

pub starts-each : (id time : ℕ) (l : List (List ℕ)) → NoStart l → All (λ a. is_start (tail_of a.frame.bytes) ≡ false) (arrivals_at id time l)
starts-each id time [] h = tt
starts-each id time (c ∷ l) h = (h.0, starts-each id time l h.1)

-- where the stream brings no start, none is answered
pub no-starts : (u : Setup) (d : Stream) (ps : Places) (l : List Reception)
    → All (λ a. is_start (tail_of a.frame.bytes) ≡ false) (frames_with (rules_table u) (of_stream d) l) → answers_to (rules_table u) (start_of d) ps l ≡ []
unfolding frames_with answers_to
no-starts u d ps [] h = refl
no-starts u d ps (r ∷ rs) h = go (of_stream d r.arrival.frame) h (no-starts u d (step u ps r).places rs)
  where
    rest : List Answer
    rest = answers_to (rules_table u) (start_of d) (step u ps r).places rs

    go : (b : Bool) → All (λ a. is_start (tail_of a.frame.bytes) ≡ false) (keep b r.arrival (frames_with (rules_table u) (of_stream d) rs))
        → (All (λ a. is_start (tail_of a.frame.bytes) ≡ false) (frames_with (rules_table u) (of_stream d) rs) → rest ≡ [])
        → keep (b && is_start (tail_of r.arrival.frame.bytes)) (step u ps r).answer rest ≡ []
    go true k ih = rw k.0 (ih k.1)
    go false k ih = ih k

-- ── the receiver that a call is for ──

module _ (u : Setup) (c : Call) (hears : Hears u c) (id : ℕ) (small : id < 2 ^ 29) (stream : stream_of id ≡ sending.stream_of c) (named : 0 < c.own)
    (aimed : (c.transfer_type ≡ 0 → ⊥) → 0 < c.destination) where
  pub signed : signature_for u id ≡ some c.signature
  signed = ap (λ s. subscribed (kind_of s) s.type u.subscriptions) stream ∙ hears.subscribes

  module _ (t : ℕ) (t-small : t < 32) (xs : List ℕ) (last : Bool) (most : length xs ≤ 7) (whole : last ≡ false → length xs ≡ 7) (time i : ℕ)
      (ours : i < interfaces_max) where
    abbrev bytes : List ℕ
    bytes = framed xs (tail_byte true last false t)

    abbrev f : Arrival
    f = arrival_at i id bytes time

    accepts : Accepted u f
    accepts =
        let n = framed-length xs (tail_byte true last false t) in
        record {
          id = lt-leb (2 ^ 29) id small;
          length = rw (ne_eqb (length bytes) 0 (λ e. omega arith), le-ltb 8 (length bytes) (omega arith));
          interface = lt-leb interfaces_max i ours;
          service = rw stream (served (eqb c.transfer_type 0) refl);
          tail = rw (named-not-anonymous id (rw stream named), starts t t-small xs true last false, ends t t-small xs true last false, toggles t t-small xs true last false)
              (tail last refl);
          mine = rw stream (mine (eqb c.transfer_type 0) refl);
          subscribed = ap (λ o. is_none o) signed;
        }
      where
        tail : (b : Bool) → last ≡ b → bad_tail false true b false (length bytes) ≡ false
        tail true e = refl
        tail false e = rw (le-ltb (length bytes) 8 (omega (arith, framed-length xs (tail_byte true last false t), whole e)))

        served : (b : Bool) → eqb c.transfer_type 0 ≡ b → (not b && (eqb c.own 0 || eqb c.destination 0)) ≡ false
        served true e = refl
        served false e =
            let a = aimed (eqb-false c.transfer_type 0 e) in
            rw (ne_eqb c.own 0 (λ z. omega arith), ne_eqb c.destination 0 (λ z. omega arith))

        mine : (b : Bool) → eqb c.transfer_type 0 ≡ b → (not b && not (eqb c.destination u.own)) ≡ false
        mine true e = refl
        mine false e = rw (eq-eqb c.destination u.own (sym (hears.addressed (eqb-false c.transfer_type 0 e))))

    -- ── its start ──

    pub sorts-start : (ps : Places) → places_fit ps ≡ true → (space : ℕ) → 512 ≤ space → Sorted (step u ps (record { arrival = f; room = space })).answer
    sorts-start ps fit space h =
        let r : Reception = record { arrival = f; room = space } in
        sorts-step u ps r fit (starts t t-small xs true last false) (roomy-check u r h ∙ none_of u f accepts) (named-not-anonymous id (rw stream named))
