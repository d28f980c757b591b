-- From the rules to a machine of code: of one that answers and moves as `step` does, through the table that its state stands for, condition 3 holds, and
-- bursts are caught, as of the rules' table.
use mathlib.Core.Path.{◌≡◌, refl, sym, ap, ap₂, ◌∙◌, subst}
use mathlib.Core.Bool.{Bool, true, false, not, ◌&&◌}
use mathlib.Core.List.{List, [], ◌∷◌, ◌++◌, map, map-append}
use Prim.Native.Nat.{ℕ, zero, suc}
use lib.Dec.{leb, eqb}
use lib.ListN.{length, take}
use Rattle.rules.specs.Answer.{Answer, handed, differs, number_of}
use Rattle.rules.specs.Check.{Reception}
use Rattle.rules.specs.Condition3.{Machine, of_stream, start_of, took, keep, All, arrival_of, frame_of, frames_with, answers_to, up_to, Receiver, start_frame, frames, answers, took_start, Premises, forward, roomy, never, front, While, Transfer, handouts, Claim, Condition3, Past, rules_table}
use Rattle.rules.specs.Damage.{Opens, Damaged, end_at, before_end, after_end, Caught, BurstIsCaught}
use Rattle.rules.specs.Frame.{Frame, Stream}
use Rattle.rules.specs.Limits.{payload_max}
use Rattle.rules.specs.Range.{Ranged}
use Rattle.rules.specs.Reception.{step}
use Rattle.rules.specs.Setup.{Setup}
use Rattle.rules.specs.Table.{Places}
use Rattle.rules.specs.Tests.{pick}
use Rattle.rules.proofs.Caught.{burst-caught}
use Rattle.rules.proofs.Ranges.{ranges}
use Rattle.rules.proofs.Theorem.{theorem}

-- a reception of the rules may be any
pub free : (u : Setup) (l : List Reception) → All (rules_table u).Typed l
free u [] = tt
free u (r ∷ rs) = (tt, free u rs)

ranged-parts : (l k : List Answer) → All Ranged (l ++ k) → All Ranged l × All Ranged k
ranged-parts [] k h = (tt, h)
ranged-parts (a ∷ l) k h = let r = ranged-parts l k h.1 in ((h.0, r.0), r.1)

-- the view that shows the rules' table in the states of a machine
pub record View (u : Setup) (M : Machine) : Type 0 where
  pub places : M.State → Places
  pub numbers : (a : Answer) → Ranged a → M.number (M.shows a) ≡ number_of a
  pub past : (s : M.State) → M.Past s → Past u (places s)
  pub stays : (s : M.State) (c : M.Call) → M.Past s → M.Typed c → M.Past (M.after s c)
  pub says : (s : M.State) (c : M.Call) → M.Past s → M.Typed c → M.answer s c ≡ M.shows (step u (places s) (M.reception c)).answer
  pub moves : (s : M.State) (c : M.Call) → M.Past s → M.Typed c → places (M.after s c) ≡ (step u (places s) (M.reception c)).places

module _ (u : Setup) (M : Machine) where
  -- ── lists of calls ──

  pub frames-are : (t : Frame → Bool) (l : List M.Call) → frames_with M t l ≡ frames_with (rules_table u) t (map M.reception l)
  unfolding frames_with
  frames-are t [] = refl
  frames-are t (c ∷ cs) = ap (λ fs. keep (t (frame_of M c)) (arrival_of M c) fs) (frames-are t cs)

  upto-are : (t : Frame → Bool) (l : List M.Call) (k : ℕ) → map M.reception (up_to M t l k) ≡ up_to (rules_table u) t (map M.reception l) k
  unfolding up_to
  upto-are t [] k = refl
  upto-are t (c ∷ cs) zero = refl
  upto-are t (c ∷ cs) (suc k) = ap (λ l. M.reception c ∷ l) (upto-are t cs (pick (t (frame_of M c)) k (suc k)))

  forward-is : (t : ℕ) (l : List M.Call) → forward M t l ≡ forward (rules_table u) t (map M.reception l)
  forward-is t [] = refl
  forward-is t (c ∷ cs) = ap (λ b. leb t (frame_of M c).time && b) (forward-is (frame_of M c).time cs)

  roomy-is : (d : Stream) (l : List M.Call) → roomy M d l ≡ roomy (rules_table u) d (map M.reception l)
  roomy-is d [] = refl
  roomy-is d (c ∷ cs) = ap (λ b. pick (of_stream d (frame_of M c)) (leb payload_max (M.reception c).room) true && b) (roomy-is d cs)

  typed-upto : (t : Frame → Bool) (l : List M.Call) (k : ℕ) → All M.Typed l → All M.Typed (up_to M t l k)
  unfolding up_to
  typed-upto t [] k h = tt
  typed-upto t (c ∷ cs) zero h = tt
  typed-upto t (c ∷ cs) (suc k) h = (h.0, typed-upto t cs (pick (t (frame_of M c)) k (suc k)) h.1)

  -- ── lists of answers ──

  keep-ranged : (b : Bool) (a : Answer) (l : List Answer) → Ranged a → All Ranged l → All Ranged (keep b a l)
  keep-ranged true a l h k = (h, k)
  keep-ranged false a l h k = k

  all-ranged : (t : Frame → Bool) (ps : Places) (l : List Reception) → All Ranged (answers_to (rules_table u) t ps l)
  unfolding answers_to
  all-ranged t ps [] = tt
  all-ranged t ps (r ∷ rs) =
      keep-ranged (t r.arrival.frame) (step u ps r).answer (answers_to (rules_table u) t (step u ps r).places rs) (ranges u ps r) (all-ranged t (step u ps r).places rs)

  keep-map : (b : Bool) (a : Answer) (l : List Answer) → map M.shows (keep b a l) ≡ keep b (M.shows a) (map M.shows l)
  keep-map true a l = refl
  keep-map false a l = refl

  shown-length : (l : List Answer) → length (map M.shows l) ≡ length l
  shown-length [] = refl
  shown-length (a ∷ l) = ap suc (shown-length l)

  take-map : (k : ℕ) (l : List Answer) → take k (map M.shows l) ≡ map M.shows (take k l)
  take-map zero l = refl
  take-map (suc k) [] = refl
  take-map (suc k) (a ∷ l) = ap (λ (x : List M.Answer). M.shows a ∷ x) (take-map k l)

  module _ (v : View u M) where
    never-map : (n : ℕ) (l : List Answer) → All Ranged l → never M n (map M.shows l) ≡ never (rules_table u) n l
    never-map n [] h = refl
    never-map n (a ∷ l) h = ap₂ (λ (x : ℕ) (b : Bool). not (eqb x n) && b) (v.numbers a h.0) (never-map n l h.1)

    handouts-map : (l : List Answer) → All Ranged l → handouts M (map M.shows l) ≡ map M.shows (handouts (rules_table u) l)
    handouts-map [] h = refl
    handouts-map (a ∷ l) h =
        ap₂ (λ (x : ℕ) (y : List M.Answer). keep (eqb x 1) (M.shows a) y) (v.numbers a h.0) (handouts-map l h.1)
        ∙ sym (keep-map (eqb (number_of a) 1) a (handouts (rules_table u) l))

    answers-are : (t : Frame → Bool) (s : M.State) (l : List M.Call) → M.Past s → All M.Typed l
        → answers_to M t s l ≡ map M.shows (answers_to (rules_table u) t (v.places s) (map M.reception l))
    unfolding answers_to
    answers-are t s [] p h = refl
    answers-are t s (c ∷ cs) p h =
        ap₂ (λ (a : M.Answer) (l : List M.Answer). keep (t (frame_of M c)) a l) (v.says s c p h.0)
        (answers-are t (M.after s c) cs (v.stays s c p h.0) h.1
        ∙ ap (λ ps. map M.shows (answers_to (rules_table u) t ps (map M.reception cs))) (v.moves s c p h.0))
        ∙ sym (keep-map (t (frame_of M c)) (step u (v.places s) (M.reception c)).answer _)

    -- ── one receiver ──

    abbrev pub view_of : Receiver M → Receiver (rules_table u)
    view_of x = record { state = v.places x.state; start = M.reception x.start; list = map M.reception x.list }

    module _ (d : Stream) (x : Receiver M) (p : M.Past x.state) (h : All M.Typed (x.start ∷ x.list)) where
      answers_of : answers M d x ≡ map M.shows (answers (rules_table u) d (view_of x))
      answers_of = answers-are (of_stream d) x.state (x.start ∷ x.list) p h

      taken_of : (k : ℕ) → take k (answers M d x) ≡ map M.shows (take k (answers (rules_table u) d (view_of x)))
      taken_of k = ap (take k) answers_of ∙ take-map k (answers (rules_table u) d (view_of x))

      took-is : took_start M x ≡ took_start (rules_table u) (view_of x)
      took-is =
          let ps = v.places x.state in
          let r = M.reception x.start in
          ap (λ a. took (M.number a)) (v.says x.state x.start p h.0) ∙ ap took (v.numbers (step u ps r).answer (ranges u ps r))

      handouts-of : (l : List Answer) → handouts (rules_table u) (answers (rules_table u) d (view_of x)) ≡ l → handouts M (answers M d x) ≡ map M.shows l
      handouts-of l e =
          let y = view_of x in
          ap (handouts M) answers_of ∙ handouts-map (answers (rules_table u) d y) (all-ranged (of_stream d) y.state (y.start ∷ y.list)) ∙ ap (map M.shows) e

      module _ (k : ℕ) where
        abbrev seen : List Reception
        seen = front (rules_table u) d k (view_of x)

        front-is : map M.reception (front M d k x) ≡ seen
        front-is = upto-are (of_stream d) x.list k

        time-is : forward M (start_frame M x).frame.time (front M d k x) ≡ forward (rules_table u) (start_frame M x).frame.time seen
        time-is = forward-is (start_frame M x).frame.time (front M d k x) ∙ ap (forward (rules_table u) (start_frame M x).frame.time) front-is

        room-is : roomy M d (front M d k x) ≡ roomy (rules_table u) d seen
        room-is = roomy-is d (front M d k x) ∙ ap (roomy (rules_table u) d) front-is

        -- of the answers to the frames after the start that pass a test
        never-is : (n : ℕ) (t : Frame → Bool) → never M n (answers_to M t (M.after x.state x.start) (front M d k x))
            ≡ never (rules_table u) n (answers_to (rules_table u) t (step u (v.places x.state) (M.reception x.start)).places seen)
        never-is n t =
            let s = M.after x.state x.start in
            ap (never M n) (answers-are t s (front M d k x) (v.stays x.state x.start p h.0) (typed-upto (of_stream d) x.list k h.1))
            ∙ never-map n (answers_to (rules_table u) t (v.places s) (map M.reception (front M d k x))) (all-ranged t (v.places s) (map M.reception (front M d k x)))
            ∙ ap₂ (λ (ps : Places) (l : List Reception). never (rules_table u) n (answers_to (rules_table u) t ps l))
            (v.moves x.state x.start p h.0) front-is

        while-is : While M d k x → While (rules_table u) d k (view_of x)
        while-is w =
            record {
              time = sym time-is ∙ w.time;
              room = sym room-is ∙ w.room;
              table = sym (never-is 9 (start_of d)) ∙ w.table;
              blocks = sym (never-is 26 (of_stream d)) ∙ w.blocks;
            }

        pub while-back : While (rules_table u) d k (view_of x) → While M d k x
        while-back w =
            record {
              time = time-is ∙ w.time;
              room = room-is ∙ w.room;
              table = never-is 9 (start_of d) ∙ w.table;
              blocks = never-is 26 (of_stream d) ∙ w.blocks;
            }

    -- ── two ──

    module _ (d : Stream) (x y : Receiver M) where
      premises-are : Premises M d x y → Premises (rules_table u) d (view_of x) (view_of y)
      premises-are h =
          record {
            pasts = (v.past x.state h.pasts.0, v.past y.state h.pasts.1);
            typed = (free u ((view_of x).start ∷ (view_of x).list), free u ((view_of y).start ∷ (view_of y).list));
            named = h.named;
            start = h.start;
            together = h.together;
            take = (sym (took-is d x h.pasts.0 h.typed.0) ∙ h.take.0, sym (took-is d y h.pasts.1 h.typed.1) ∙ h.take.1);
            same = sym (frames-are (of_stream d) x.list) ∙ h.same ∙ frames-are (of_stream d) y.list;
          }

      pub premises-back : M.Past x.state × M.Past y.state → All M.Typed (x.start ∷ x.list) × All M.Typed (y.start ∷ y.list)
          → Premises (rules_table u) d (view_of x) (view_of y) → Premises M d x y
      premises-back p t h =
          record {
            pasts = p;
            typed = t;
            named = h.named;
            start = h.start;
            together = h.together;
            take = (took-is d x p.0 t.0 ∙ h.take.0, took-is d y p.1 t.1 ∙ h.take.1);
            same = frames-are (of_stream d) x.list ∙ h.same ∙ sym (frames-are (of_stream d) y.list);
          }

      claim-back : Premises M d x y → Claim (rules_table u) u d (view_of x) (view_of y) → Claim M u d x y
      claim-back h c =
          let px = h.pasts.0 in
          let py = h.pasts.1 in
          let tx = h.typed.0 in
          let ty = h.typed.1 in
          let fx = frames-are (of_stream d) x.list in
          let fy = frames-are (of_stream d) y.list in
          record {
            alike = λ k a b. taken_of d x px tx (suc k) ∙ ap (map M.shows) (c.alike k (while-is d x px tx k a) (while-is d y py ty k b))
                ∙ sym (taken_of d y py ty (suc k));
            delivered = λ priority t p tr a b.
                let q = c.delivered priority t p (subst (λ fs. Transfer u d (start_frame M x) fs priority t p) fx tr)
                (subst (λ fs. While (rules_table u) d (length fs) (view_of x)) fx (while-is d x px tx (length (frames M d x)) a))
                (subst (λ fs. While (rules_table u) d (length fs) (view_of y)) fy (while-is d y py ty (length (frames M d y)) b)) in
                (handouts-of d x px tx (handed p d priority t ∷ []) q.0, handouts-of d y py ty (handed p d priority t ∷ []) q.1);
          }

    -- ── one, a burst (RULES 14.18) ──

    module _ (d : Stream) (x : Receiver M) (o : Opens M d x) where
      abbrev y : Receiver (rules_table u)
      y = view_of x

      opens-are : Opens (rules_table u) d y
      opens-are =
          record {
            past = v.past x.state o.past;
            typed = free u (y.start ∷ y.list);
            named = o.named;
            start = o.start;
            take = sym (took-is d x o.past o.typed) ∙ o.take;
          }

      numbered : (t : ℕ → Bool) (l : List Answer) → All Ranged l → All (λ a. t (number_of a) ≡ true) l → All (λ a. t (M.number a) ≡ true) (map M.shows l)
      numbered t [] h k = tt
      numbered t (a ∷ l) h k = (ap t (v.numbers a h.0) ∙ k.0, numbered t l h.1 k.1)

      caught-back : Caught (rules_table u) d y → Caught M d x
      caught-back c =
          let r = ranged-parts c.before (differs ∷ c.after) (subst (All Ranged) c.parts (all-ranged (of_stream d) y.state (y.start ∷ y.list))) in
          record {
            before = map M.shows c.before;
            after = map M.shows c.after;
            parts = answers_of d x o.past o.typed ∙ ap (map M.shows) c.parts ∙ map-append M.shows c.before (differs ∷ c.after);
            end = shown-length c.before ∙ c.end ∙ ap (λ fs. end_at (start_frame M x).interface (start_frame M x ∷ fs)) (sym (frames-are (of_stream d) x.list));
            number = v.numbers differs tt;
            silent = handouts-of d x o.past o.typed [] c.silent;
            others = (numbered before_end c.before r.0 c.others.0, numbered after_end c.after r.1.1 c.others.1);
          }

pub lifted : (machine : Setup → Machine) → ((u : Setup) → View u (machine u)) → Condition3 machine
lifted machine views u d x y h =
    let M = machine u in
    let v = views u in
    claim-back u M v d x y h (theorem u d (view_of u M v x) (view_of u M v y) (premises-are u M v d x y h))

pub lifted-burst : (machine : Setup → Machine) → ((u : Setup) → View u (machine u)) → BurstIsCaught machine
lifted-burst machine views u d x o priority t p q dm w =
    let M = machine u in
    let v = views u in
    let fs = frames-are u M (of_stream d) x.list in
    caught-back u M v d x o
    (burst-caught u d (view_of u M v x) (opens-are u M v d x o) priority t p q (subst (λ l. Damaged u d (start_frame M x) l priority t p q) fs dm)
    (subst (λ l. While (rules_table u) d (length l) (view_of u M v x)) fs (while-is u M v d x o.past o.typed (length (frames M d x)) w)))
