-- What the frame checks tell of a frame that passes them.
use mathlib.Core.Path.{◌≡◌, refl}
use mathlib.Core.Bool.{Bool, true, false, not, ◌&&◌, ◌||◌, and-false}
use mathlib.Core.Option.{Option, none, some}
use mathlib.Mathlib.Data.Bool.Basic.{and_elim_right, or-eq-false-eq-eq-false-and-eq-false as or_off}
use Prim.Native.Nat.{ℕ, ◌^◌, ◌≤◌, ◌<◌}
use native.Mathlib.Omega.{arith}
use lib.Dec.{ltb, eqb}
use lib.ListN.{length}
use borrow.Author.Tests.{ne_eqb, le-ltb}
use Rattle.rules.specs.Check.{Reception, parsed, large_id, bad_length, no_interface, unnamed_service, bad_tail, for_another, not_subscribed, frame_check, room_check, check}
use Rattle.rules.specs.Condition3.{of_stream}
use Rattle.rules.specs.Frame.{Frame, Arrival, Stream, is_service, source_of, destination_of, is_anonymous, stream_of, tail_of, is_start, is_end, toggle_of}
use Rattle.rules.specs.Sent.{arrival_at}
use Rattle.rules.specs.Setup.{Setup}
use Rattle.rules.specs.Tests.{pick, bit}
use Rattle.rules.proofs.Table.{same-eq}

-- ── passed, check by check ──

abbrev pub bad_tail_in : Frame → Bool
bad_tail_in f =
    bad_tail (is_anonymous f.id) (is_start (tail_of f.bytes)) (is_end (tail_of f.bytes)) (toggle_of (tail_of f.bytes)) (length f.bytes)

pub record Accepted (u : Setup) (a : Arrival) : Type 0 where
  pub id : large_id a.frame.id ≡ false
  pub length : bad_length (length a.frame.bytes) ≡ false
  pub interface : no_interface a.interface ≡ false
  pub service : unnamed_service (stream_of a.frame.id) ≡ false
  pub tail : bad_tail_in a.frame ≡ false
  pub mine : for_another u.own (stream_of a.frame.id) ≡ false
  pub subscribed : not_subscribed u a.frame ≡ false

pick-none : (b : Bool) (n : ℕ) (o : Option ℕ) → pick b (some n) o ≡ none → (b ≡ false) × (o ≡ none)
pick-none true n o e = let z : ◌≡◌ {A = ℕ} 0 1 = cc in absurd (omega arith)
pick-none false n o e = (refl, e)

pub accepted : (u : Setup) (f : Arrival) → frame_check u f ≡ none → Accepted u f
unfolding frame_check
accepted u f e =
    let e2 = pick-none (large_id f.frame.id) 2 _ e in
    let e3 = pick-none (bad_length (length f.frame.bytes)) 3 _ e2.1 in
    let e19 = pick-none (no_interface f.interface) 19 _ e3.1 in
    let e4 = pick-none (unnamed_service (stream_of f.frame.id)) 4 _ e19.1 in
    let e5 = pick-none (bad_tail_in f.frame) 5 _ e4.1 in
    let e6 = pick-none (for_another u.own (stream_of f.frame.id)) 6 _ e5.1 in
    let e7 = pick-none (not_subscribed u f.frame) 7 _ e6.1 in
    record { id = e2.0; length = e3.0; interface = e19.0; service = e4.0; tail = e5.0; mine = e6.0; subscribed = e7.0 }

pub none_of : (u : Setup) (f : Arrival) → Accepted u f → frame_check u f ≡ none
unfolding frame_check
none_of u f a = rw (a.id, a.length, a.interface, a.service, a.tail, a.mine, a.subscribed)

pub checked : (u : Setup) (r : Reception) → check u r ≡ none → frame_check u r.arrival ≡ none
unfolding check
checked u r e = go (frame_check u r.arrival) (ltb r.room 512) e
  where
    go : (o : Option ℕ) (b : Bool) → room_check o b ≡ none → o ≡ none
    go none b k = refl
    go (some n) b k = k

-- enough room is no matter
pub roomy-check : (u : Setup) (r : Reception) → 512 ≤ r.room → check u r ≡ frame_check u r.arrival
unfolding check
roomy-check u r h = rw (le-ltb r.room 512 h) (go (frame_check u r.arrival))
  where
    go : (o : Option ℕ) → room_check o false ≡ o
    go none = refl
    go (some n) = refl

-- the checks look at no time
pub check-time : (u : Setup) (f : Arrival) (x : ℕ) → frame_check u (arrival_at f.interface f.frame.id f.frame.bytes x) ≡ frame_check u f
unfolding frame_check
check-time u f x = refl

pub start-toggle : (u : Setup) (f : Arrival) → frame_check u f ≡ none → (parsed u f).start ≡ true → (parsed u f).toggle ≡ false
unfolding parsed
start-toggle u f e st =
    let k : ((parsed u f).start && (parsed u f).toggle) ≡ false = ((or_off _ _).0 (accepted u f e).tail).0 in
    rw st at k

-- ── the stream ──

pub named-not-anonymous : (id : ℕ) → 0 < (stream_of id).source → is_anonymous id ≡ false
named-not-anonymous id h = rw (ne_eqb (stream_of id).source 0 (λ e. omega arith)) (and-false (eqb (stream_of id).transfer_type 0))

-- a service frame that 4 lets through names both nodes
pub both-named : (id : ℕ) → is_service id ≡ true → unnamed_service (stream_of id) ≡ false → (eqb (source_of id) 0 || eqb (destination_of id) 0) ≡ false
unfolding stream_of
both-named id k e = go (bit id 32768) _ (rw k at e)
  where
    go : (c x : Bool) → (not (eqb (pick {A = ℕ} c 1 2) 0) && x) ≡ false → x ≡ false
    go true x e = e
    go false x e = e

pub of-stream : (d : Stream) (f : Frame) → of_stream d f ≡ true → stream_of f.id ≡ d
of-stream d f e = same-eq (stream_of f.id) d (and_elim_right (ltb f.id (2 ^ 29)) _ e)
