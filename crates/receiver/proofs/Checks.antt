-- The frame checks in the order of the code, and what a frame that passes them is.
use mathlib.Core.Path.{◌≡◌, sym, ap}
use mathlib.Core.List.{List}
use mathlib.Core.Option.{Option, none, some}
use Prim.Native.Nat.{ℕ, ◌≤◌, ◌<◌}
use borrow.Author.Tests.{lt-ltb, le-ltb}
use lib.ListN.{length}
use Rattle.frame.specs.inside.Head.{head_of}
use Rattle.receiver.specs.Receive.{arrival_of, arriving}
use Rattle.rules.proofs.Ordered as ordered
use Rattle.rules.specs.Answer.{refused}
use Rattle.rules.specs.Check.{Reception, check, parsed, frame_check, or_zero}
use Rattle.rules.specs.Frame.{Arrival, is_anonymous, priority_of, stream_of, tail_of, payload_of, is_start, is_end, toggle_of, transfer_of}
use Rattle.rules.specs.Reception.{step, step_checked, step_anonymous}
use Rattle.rules.specs.Setup.{Setup, signature_for}
use Rattle.rules.specs.Table.{Places}
use Rattle.session.specs.inside.Session.{parsed_of}

-- the head, the signature and the payload beside it are what the rules read
pub parsed-is : (u : Setup) (id i time signature : ℕ) (bs : List ℕ) → signature_for u id ≡ some signature
    → parsed_of (record { head = head_of id (tail_of bs); signature = signature; time = time; interface = i }) (payload_of bs) ≡ parsed u (arrival_of id bs i time)
unfolding parsed_of head_of parsed
parsed-is u id i time signature bs e =
    let g : signature ≡ or_zero (signature_for u id) = sym (ap or_zero e) in
    λ j. record {
      stream = stream_of id;
      signature = g j;
      priority = priority_of id;
      start = is_start (tail_of bs);
      last = is_end (tail_of bs);
      toggle = toggle_of (tail_of bs);
      transfer = transfer_of (tail_of bs);
      payload = payload_of bs;
      time = time;
      interface = i;
    }

-- ── the step, by the number of the check ──

module _ (u : Setup) (id i time : ℕ) (bs out : List ℕ) where
  abbrev frame : Arrival
  frame = arrival_of id bs i time

  abbrev pub heads : Option ℕ
  heads = ordered.heads u frame

  pub read-refuses : (r : ℕ) → r ≡ or_zero (ordered.reads u frame) → 0 < r → check u (arriving frame out) ≡ some r
  unfolding check
  read-refuses r e h = rw (ordered.read-refuses u frame r e h)

  module _ (r : ℕ) (e : r ≡ or_zero (ordered.reads u frame)) (z : r ≤ 0) where
    pub head-refuses : (k : ℕ) → k ≡ or_zero heads → 0 < k → check u (arriving frame out) ≡ some k
    unfolding check
    head-refuses k d h = rw (ordered.head-refuses u frame r e z k d h)

    module _ (k : ℕ) (d : k ≡ or_zero heads) (y : k ≤ 0) where
      pub not-subscribed : signature_for u id ≡ none → check u (arriving frame out) ≡ some 7
      unfolding check
      not-subscribed s = rw (ordered.heads-pass u frame r e z k d y, s)

      module _ (g : ℕ) (s : signature_for u id ≡ some g) where
        pub all-passed : frame_check u frame ≡ none
        all-passed = rw (ordered.heads-pass u frame r e z k d y, s)

        pub no-room : length out < 512 → check u (arriving frame out) ≡ some 8
        unfolding check
        no-room h = rw (all-passed, lt-ltb (length out) 512 h)

        pub accepted : 512 ≤ length out → check u (arriving frame out) ≡ none
        unfolding check
        accepted h = rw (all-passed, le-ltb (length out) 512 h)

pub step-refused : (u : Setup) (ps : Places) (r : Reception) (n : ℕ) → check u r ≡ some n → step u ps r ≡ record { answer = refused n; places = ps }
unfolding step step_checked
step-refused u ps r n e = ap (λ (o : Option ℕ). step_checked o (is_anonymous r.arrival.frame.id) ps (parsed u r.arrival)) e

pub step-accepted : (u : Setup) (ps : Places) (r : Reception) → check u r ≡ none → step u ps r ≡ step_anonymous (is_anonymous r.arrival.frame.id) ps (parsed u r.arrival)
unfolding step step_checked
step-accepted u ps r e = ap (λ (o : Option ℕ). step_checked o (is_anonymous r.arrival.frame.id) ps (parsed u r.arrival)) e
