-- What a reception answers is in its range.
use mathlib.Core.Path.{◌≡◌, refl}
use mathlib.Core.Logic.{◌⊎◌, inl, inr}
use mathlib.Core.Bool.{Bool, true, false}
use mathlib.Core.List.{List, [], ◌∷◌, ◌++◌}
use mathlib.Core.Logic.{◌⊎◌, inl, inr}
use mathlib.Core.Option.{Option, none, some}
use mathlib.Mathlib.Data.Bool.Basic.{or-eq-false-eq-eq-false-and-eq-false as or_off}
use Prim.Native.Nat.{ℕ, ◌/◌, ◌%◌, ◌^◌, ◌-◌, ◌≤◌, ◌<◌}
use native.Mathlib.Omega.{arith}
use lib.Dec.{ltb, eqb}
use lib.ListN.{length, take, drop, get_or, length-take, length-drop}
use borrow.Author.Tests.{ltb-false, leb-false, le-leb, lt-leb, ne_eqb}
use Rattle.rules.specs.Answer.{Answer, taken, handed, refused, full, passed, long, no_block, differs, Reason, no_transfer, wrong_toggle, wrong_transfer, repeated_start, other_interface, reason_number, number_of}
use Rattle.rules.specs.Blocks.{keeps, blocks_in}
use Rattle.rules.specs.Check.{Reception, Parsed, parsed, large_id, bad_length, no_interface, unnamed_service, for_another, not_subscribed, frame_check, room_check, check}
use Rattle.rules.specs.Frame.{Arrival, is_service, is_anonymous, source_of, stream_if, stream_of}
use Rattle.rules.specs.Range.{HandedRange, Ranged, RangeLaw, answered, NumberLaw, out, HandOut, OneLaw}
use Rattle.rules.specs.Reception.{session_in, step_new, step_start, step_seek, step_anonymous, step_checked, step}
use Rattle.rules.specs.Session.{Session, sum_ok, closing, take_end, take_long, takes, over_if, over, proceed_if, proceed, met, fresh}
use Rattle.rules.specs.Setup.{Setup}
use Rattle.rules.specs.Table.{Places, empty, seek, holds, place_for}
use Rattle.rules.specs.Tests.{bit, pick, is_empty, same_bool}
use Rattle.rules.proofs.Checks.{Accepted, accepted, checked, bad_tail_in}
use Rattle.rules.proofs.Landing.{answer_at}

-- ── a frame that passes the checks ──

abbrev pub Headed : Parsed → Type 0
Headed v = HandedRange v.payload v.stream v.priority v.transfer × (length v.payload ≤ 7)

pub headed : (u : Setup) (f : Arrival) → Accepted u f → Headed (parsed u f)
unfolding parsed stream_of
headed u f a = go (is_service f.frame.id)
  where
    id-lt : f.frame.id < 2 ^ 29
    id-lt = leb-false (2 ^ 29) f.frame.id a.id

    short : length (take (length f.frame.bytes - 1) f.frame.bytes) ≤ 7
    short =
        let l = ltb-false 8 (length f.frame.bytes) ((or_off (eqb (length f.frame.bytes) 0) (ltb 8 (length f.frame.bytes))).0 a.length).1 in
        omega (arith, length-take (length f.frame.bytes - 1) f.frame.bytes, l)

    kinds : (b : Bool) → pick {A = ℕ} b 1 2 < 3
    kinds true = omega arith
    kinds false = omega arith

    types : (b : Bool) → pick b (f.frame.id / 256 % 4) (f.frame.id / 256 % 65536) < 65536
    types true = omega arith
    types false = omega arith

    go : (b : Bool) → HandedRange (take (length f.frame.bytes - 1) f.frame.bytes) (stream_if b f.frame.id) (f.frame.id / 16777216) (get_or f.frame.bytes (length f.frame.bytes - 1) 0 % 32)
        × (length (take (length f.frame.bytes - 1) f.frame.bytes) ≤ 7)
    go true = (
      record {
        length = omega (arith, short);
        transfer_type = kinds (bit f.frame.id 32768);
        type = omega arith;
        source = omega arith;
        destination = omega arith;
        priority = omega (arith, id-lt);
        transfer = omega arith;
      },
      short,
    )
    go false = (
      record {
        length = omega (arith, short);
        transfer_type = omega arith;
        type = types (eqb (source_of f.frame.id) 0);
        source = omega arith;
        destination = omega arith;
        priority = omega (arith, id-lt);
        transfer = omega arith;
      },
      short,
    )

-- ── a session ──

module _ (v : Parsed) (h : Headed v) where
  with-payload : (p : List ℕ) → length p ≤ 512 → HandedRange p v.stream v.priority v.transfer
  with-payload p n =
      let r = h.0 in
      record {
        length = n;
        transfer_type = r.transfer_type;
        type = r.type;
        source = r.source;
        destination = r.destination;
        priority = r.priority;
        transfer = r.transfer;
      }

  closed-range : (start ok : Bool) (all : List ℕ) → length all ≤ 514 → (start ≡ true → length all ≤ 7) → Ranged (closing start ok all v)
  unfolding closing
  closed-range true ok all n k = with-payload all (omega (arith, k refl))
  closed-range false true all n k = with-payload (drop 2 all) (omega (arith, length-drop 2 all, n))
  closed-range false false all n k = tt

  end-range : (last : Bool) (s : Session) (all : List ℕ) → length all ≤ 514 → (v.start ≡ true → length all ≤ 7) → Ranged (take_end last s v all).answer
  unfolding take_end
  end-range false s all n k = tt
  end-range true s all n k = closed-range v.start (sum_ok v.signature all) all n k

  long-range : (b : Bool) (s : Session) (all : List ℕ) → ltb 514 (length all) ≡ b → (v.start ≡ true → length all ≤ 7) → Ranged (take_long b s v all).answer
  unfolding take_long
  long-range true s all e k = tt
  long-range false s all e k = end-range v.last s all (ltb-false 514 (length all) e) k

  take_range : (s : Session) → (v.start ≡ true → length (s.gathered ++ v.payload) ≤ 7) → Ranged (takes s v).answer
  unfolding takes
  take_range s k = long-range (ltb 514 (length (s.gathered ++ v.payload))) s (s.gathered ++ v.payload) refl k

  -- a start that is taken meets nothing in hand
  start-empty : (followed start expected hand toggle : Bool) → over_if followed start expected hand toggle ≡ none → start ≡ true → hand ≡ true
  start-empty true true true true toggle e k = refl
  start-empty true true true false toggle e k = let z : ◌≡◌ {A = ℕ} 0 1 = cc in absurd (omega arith)
  start-empty true true false hand toggle e k = let z : ◌≡◌ {A = ℕ} 0 1 = cc in absurd (omega arith)
  start-empty true false expected hand toggle e k = let z : ◌≡◌ {A = ℕ} 0 1 = cc in absurd (omega arith)
  start-empty false start expected hand toggle e k = let z : ◌≡◌ {A = ℕ} 0 1 = cc in absurd (omega arith)

  from_empty : (g : List ℕ) → is_empty g ≡ true → length (g ++ v.payload) ≤ 7
  from_empty [] e = h.1
  from_empty (x ∷ g) e = let z : ◌≡◌ {A = ℕ} 0 1 = cc in absurd (omega arith)

  proceed-range : (s : Session) → Ranged (proceed s v).answer
  unfolding proceed over proceed_if
  proceed-range s = go (over s v) refl
    where
      go : (o : Option Reason) → over s v ≡ o → Ranged (proceed_if o s v).answer
      go (some r) e = tt
      go none e =
          take_range s (λ k. from_empty s.gathered (start-empty (eqb v.interface s.follows) v.start (eqb v.transfer s.expected) (is_empty s.gathered) (same_bool v.toggle s.toggle) e k))

  -- ── the table ──

  find-range : (ps : Places) (o : Option ℕ) → Ranged (step_seek o ps v).answer
  unfolding step_seek step_start step_new
  find-range ps (some i) =
      let p = get_or ps i empty in
      let m = met (session_in p v) v in
      answer_at ps i m (keeps m (blocks_in p)) v Ranged tt (proceed-range m)
  find-range ps none = start v.start
    where
      new : (o : Option ℕ) → Ranged (step_new o ps v).answer
      new none = tt
      new (some i) = answer_at ps i (fresh v) [] v Ranged tt (proceed-range (fresh v))

      start : (b : Bool) → Ranged (step_start b ps v).answer
      start false = tt
      start true = new (place_for v.time ps)

  named-range : (anonymous : Bool) (ps : Places) → Ranged (step_anonymous anonymous ps v).answer
  unfolding step_anonymous
  named-range true ps = h.0
  named-range false ps = find-range ps (seek (holds v.stream) ps)

-- ── the checks ──

abbrev pub UpTo : ℕ → Option ℕ → Type 0
UpTo m none = Unit {0}
UpTo m (some n) = ((2 ≤ n) × (n ≤ m)) ⊎ (n ≡ 19)

abbrev pub Small : Option ℕ → Type 0
Small o = UpTo 8 o

pub two-or-more : (n : ℕ) → Small (some n) → 2 ≤ n
two-or-more n (inl h) = h.0
two-or-more n (inr e) = omega arith

-- 26 is none of them
pub no-block : (n : ℕ) → Small (some n) → eqb n 26 ≡ false
no-block n (inl h) = ne_eqb n 26 (λ z. omega (arith, h.1, z))
no-block n (inr e) = ne_eqb n 26 (λ z. omega (arith, e, z))

or-next : (b : Bool) (n : ℕ) (o : Option ℕ) → ((2 ≤ n) × (n ≤ 7)) ⊎ (n ≡ 19) → UpTo 7 o → UpTo 7 (pick b (some n) o)
or-next true n o h k = h
or-next false n o h k = k

-- without the room
pub frame_small : (u : Setup) (f : Arrival) → UpTo 7 (frame_check u f)
unfolding frame_check
frame_small u f =
    or-next (large_id f.frame.id) 2 _ (inl (omega arith, omega arith))
    (or-next (bad_length (length f.frame.bytes)) 3 _ (inl (omega arith, omega arith))
    (or-next (no_interface f.interface) 19 _ (inr refl)
    (or-next (unnamed_service (stream_of f.frame.id)) 4 _ (inl (omega arith, omega arith))
    (or-next (bad_tail_in f.frame) 5 _ (inl (omega arith, omega arith))
    (or-next (for_another u.own (stream_of f.frame.id)) 6 _ (inl (omega arith, omega arith))
    (or-next (not_subscribed u f.frame) 7 none (inl (omega arith, omega arith)) tt))))))

pub check-small : (u : Setup) (r : Reception) → Small (check u r)
unfolding check
check-small u r = go (frame_check u r.arrival) (ltb r.room 512) (frame_small u r.arrival)
  where
    go : (o : Option ℕ) (b : Bool) → UpTo 7 o → Small (room_check o b)
    go (some n) b (inl h) = inl (h.0, omega arith)
    go (some n) b (inr e) = inr e
    go none true k = inl (omega arith, omega arith)
    go none false k = tt

pub ranges : RangeLaw
unfolding step step_checked
ranges u ps r = go (check u r) refl (check-small u r)
  where
    go : (o : Option ℕ) → check u r ≡ o → Small o → Ranged (step_checked o (is_anonymous r.arrival.frame.id) ps (parsed u r.arrival)).answer
    go (some n) e k = k
    go none e k =
        named-range (parsed u r.arrival) (headed u r.arrival (accepted u r.arrival (checked u r e))) (is_anonymous r.arrival.frame.id) ps

-- the numbers of the reasons
pub reason-range : (r : Reason) → (30 ≤ reason_number r) × (reason_number r ≤ 34)
reason-range no_transfer = (omega arith, omega arith)
reason-range wrong_toggle = (omega arith, omega arith)
reason-range wrong_transfer = (omega arith, omega arith)
reason-range repeated_start = (omega arith, omega arith)
reason-range other_interface = (omega arith, omega arith)

number : (a : Answer) → Ranged a → answered (number_of a) ≡ true
number taken h = refl
number (handed p d prio t) h = refl
number (refused n) (inl h) = rw (le-leb n 9 (omega arith))
number (refused n) (inr e) = rw e
number full h = refl
number (passed r) h =
    let n = reason_number r in
    let k = reason-range r in
    rw (lt-leb n 9 (omega arith), ne_eqb n 11 (λ e. omega arith), ne_eqb n 12 (λ e. omega arith), ne_eqb n 19 (λ e. omega arith), ne_eqb n 26 (λ e. omega arith), le-leb 30 n k.0, le-leb n 34 k.1)
number long h = refl
number no_block h = refl
number differs h = refl

pub number-law : NumberLaw
number-law u ps r = number (step u ps r).answer (ranges u ps r)

one : (a : Answer) → Ranged a → number_of a ≡ 1 → HandOut a
one taken h e = absurd (omega arith)
one (handed p d prio t) h e = out p d prio t
one (refused n) h e = absurd (omega (arith, two-or-more n h))
one full h e = absurd (omega arith)
one (passed r) h e = absurd (omega (arith, reason-range r))
one long h e = absurd (omega arith)
one no_block h e = absurd (omega arith)
one differs h e = absurd (omega arith)

pub one-law : OneLaw
one-law u ps r = one (step u ps r).answer (ranges u ps r)
