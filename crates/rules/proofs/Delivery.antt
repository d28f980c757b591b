-- A session that hears its stream alone: of the answers to the frames that carry some bytes, that to the first copy of the last frame closes the
-- transfer as the bytes decide, and the others are 0, a passing over or a refusal.
use mathlib.Core.Path.{◌≡◌, refl, sym, ap, ◌∙◌}
use mathlib.Core.Bool.{Bool, true, false, true≢false, not, ◌&&◌, ◌||◌, and-false, not-not}
use mathlib.Core.List.{List, [], ◌∷◌, ◌++◌, append_assoc, nil≢cons, head-eq_of_cons-eq, tail-eq_of_cons-eq}
use mathlib.Core.Logic.{inl, inr}
use mathlib.Core.Option.{Option, none, some}
use Prim.Native.Nat.{ℕ, zero, suc, ◌+◌, ◌*◌, ◌-◌, ◌%◌, ◌≤◌, ◌<◌}
use native.Mathlib.Omega.{arith}
use lib.Dec.{eqb, leb}
use lib.ListN.{length, take, drop, length-append, length-take, length-drop, take-append-drop}
use lib.Seq.{length-take-le}
use borrow.Author.Tests.{eq-eqb, ne_eqb, le-ltb, le-leb, lt-leb}
use Rattle.rules.specs.Answer.{Answer, taken, handed, passed, Reason, no_transfer, wrong_toggle, wrong_transfer, repeated_start, other_interface, number_of}
use Rattle.rules.specs.Check.{Parsed, or_zero, parsed, bad_length, bad_tail, frame_check}
use Rattle.rules.specs.Condition3.{Brings, done, next as onward, again, beside}
use Rattle.rules.specs.Damage.{end_by, elsewhere, before_end}
use Rattle.rules.specs.Frame.{Arrival, stream_of, priority_of, is_anonymous, tail_of, is_end}
use Rattle.rules.specs.Limits.{old_age, switch_delay}
use Rattle.rules.specs.Sent.{tail_byte, framed, arrival_at, pieces, carrying}
use Rattle.rules.specs.Session.{Session, Out, distance, next, restarts, over_if, over, sum_ok, closing, take_end, take_long, takes, proceed_if, proceed, react, fresh}
use Rattle.rules.specs.Setup.{Setup, signature_for}
use Rattle.rules.specs.Tests.{pick, bit, same_bool, is_empty}
use Rattle.rules.proofs.Checks.{Accepted, none_of, check-time, bad_tail_in}
use Rattle.rules.proofs.Frames.{framed-length, framed-tail, framed-payload, pieces-length, fulls}
use Rattle.rules.proofs.Ids.{bit_is, flag-le}
use Rattle.rules.proofs.Own.{proceed-taken, react-stays, ref_if, ref, ref_run}
use Rattle.rules.proofs.Ranges.{UpTo, frame_small}

-- ── how the answers to a transfer's frames go ──

-- beside the answer that closes; after it, what repeats a single frame is a start too
abbrev quiet : Bool → Bool → ℕ → Bool
quiet single false n = before_end n
quiet single true n = eqb n (pick single 32 30) || elsewhere n

-- whether the end has come by interface i; then frames, and the answers to them
pub data Goes (i : ℕ) (v : Answer) (single : Bool) : Bool → List Arrival → List Answer → Type 0 where
  over-now : Goes i v single true [] []
  goes_on : {ended : Bool} {fs : List Arrival} {l : List Answer} (a : Arrival) (x : Answer) → (ended ≡ false → end_by i a ≡ false)
      → quiet single ended (number_of x) ≡ true → Goes i v single ended fs l → Goes i v single ended (a ∷ fs) (x ∷ l)
  closes_by : {fs : List Arrival} {l : List Answer} (a : Arrival) → end_by i a ≡ true → Goes i v single true fs l → Goes i v single false (a ∷ fs) (v ∷ l)

or_right : (a b : Bool) → b ≡ true → (a || b) ≡ true
or_right true b e = refl
or_right false b e = e

quiet-elsewhere : (single ended : Bool) (n : ℕ) → elsewhere n ≡ true → quiet single ended n ≡ true
quiet-elsewhere single false n e = or_right (eqb n 0) _ (or_right (eqb n 31) _ (or_right (eqb n 33) _ e))
quiet-elsewhere single true n e = or_right (eqb n (pick single 32 30)) _ e

pub not-one : (single ended : Bool) (n : ℕ) → quiet single ended n ≡ true → eqb n 1 ≡ false
not-one single ended zero e = refl
not-one true true (suc zero) e = absurd (true≢false (sym e))
not-one false true (suc zero) e = absurd (true≢false (sym e))
not-one single false (suc zero) e = absurd (true≢false (sym e))
not-one single ended (suc (suc n)) e = ne_eqb (suc (suc n)) 1 (λ z. omega arith)

-- ── frames in order, beside the one taken last ──

-- c was taken last, and `more` is to come
data Then (i id till : ℕ) : List ℕ → List (List ℕ) → List Arrival → Type 0 where
  none_left : {c : List ℕ} → Then i id till c [] []
  repeated : {c : List ℕ} {more : List (List ℕ)} {fs : List Arrival} (t : ℕ) → t ≤ till → Then i id till c more fs
      → Then i id till c more (arrival_at i id c t ∷ fs)
  moved : {c n : List ℕ} {more : List (List ℕ)} {fs : List Arrival} (t : ℕ) → t ≤ till → Then i id till n more fs
      → Then i id till c (n ∷ more) (arrival_at i id n t ∷ fs)
  astray : {c : List ℕ} {more : List (List ℕ)} {fs : List Arrival} (a : Arrival) → eqb a.interface i ≡ false → a.frame.time ≤ till
      → Then i id till c more fs → Then i id till c more (a ∷ fs)

-- the first of the frames was taken already
abbrev Taken : ℕ → ℕ → ℕ → List (List ℕ) → List Arrival → Type 0
Taken i id till [] fs = Unit {0}
Taken i id till (n ∷ more) fs = Then i id till n more fs

astray-taken : (i id till : ℕ) (ms : List (List ℕ)) (fs : List Arrival) (a : Arrival) → eqb a.interface i ≡ false → a.frame.time ≤ till
    → Taken i id till ms fs → Taken i id till ms (a ∷ fs)
astray-taken i id till [] fs a e h k = tt
astray-taken i id till (n ∷ ms) fs a e h k = astray a e h k

brought : {i id till : ℕ} {ms : List (List ℕ)} {fs : List Arrival} → Brings i id till ms fs → ((c : List ℕ) → Then i id till c ms fs) × Taken i id till ms fs
brought done = (λ c. none_left, tt)
brought (onward {c = n} t h b) = let q = brought b in (λ c. moved t h (q.0 n), repeated t h (q.0 n))
brought (again t h b) = let q = brought b in (λ c. moved t h q.1, repeated t h q.1)
brought {i = i} {id = id} {till = till} (beside {l = l} {fs = fs} a e h b) = let q = brought b in (λ c. astray a e h (q.0 c), astray-taken i id till l fs a e h q.1)

-- the first frame, and what follows it
record Opened (i id till : ℕ) (c : List ℕ) (more : List (List ℕ)) (f : Arrival) (fs : List Arrival) : Type 0 where
  pub bytes : f.frame.bytes ≡ c
  pub rest : Then i id till c more fs

opened : {i id till : ℕ} {c : List ℕ} {more : List (List ℕ)} {f : Arrival} {fs : List Arrival} → eqb f.interface i ≡ true
    → Brings i id till (c ∷ more) (f ∷ fs) → Opened i id till c more f fs
opened {c = c} k (onward t h b) = record { bytes = refl; rest = (brought b).0 c }
opened k (again t h b) = record { bytes = refl; rest = (brought b).1 }
opened k (beside a e h b) = absurd (true≢false (sym k ∙ e))

-- ── what a frame's data says ──

module _ (s l g : Bool) (t : ℕ) (h : t < 32) where
  tail-start : bit (tail_byte s l g t) 128 ≡ s
  tail-start = bit_is (tail_byte s l g t) 128 s (omega (arith, flag-le s, flag-le l, flag-le g))

  tail-last : bit (tail_byte s l g t) 64 ≡ l
  tail-last = bit_is (tail_byte s l g t) 64 l (omega (arith, flag-le s, flag-le l, flag-le g))

  tail-toggle : bit (tail_byte s l g t) 32 ≡ g
  tail-toggle = bit_is (tail_byte s l g t) 32 g (omega (arith, flag-le s, flag-le l, flag-le g))

  tail-transfer : tail_byte s l g t % 32 ≡ t
  tail-transfer = omega arith

  framed-end : (xs : List ℕ) → is_end (tail_of (framed xs (tail_byte s l g t))) ≡ l
  framed-end xs = ap is_end (framed-tail xs (tail_byte s l g t)) ∙ tail-last

abbrev seen : Setup → ℕ → ℕ → ℕ → ℕ → Bool → Bool → Bool → List ℕ → Parsed
seen u i id t x s l g xs =
    record {
      stream = stream_of id;
      signature = or_zero (signature_for u id);
      priority = priority_of id;
      start = s;
      last = l;
      toggle = g;
      transfer = t;
      payload = xs;
      time = x;
      interface = i;
    }

module _ (u : Setup) (i id t : ℕ) (small : t < 32) where
  sees : (s l g : Bool) (xs : List ℕ) (x : ℕ) → parsed u (arrival_at i id (framed xs (tail_byte s l g t)) x) ≡ seen u i id t x s l g xs
  unfolding parsed
  sees s l g xs x =
      let q = framed-tail xs (tail_byte s l g t) in
      λ j. record {
        stream = stream_of id;
        signature = or_zero (signature_for u id);
        priority = priority_of id;
        start = (ap (λ b. bit b 128) q ∙ tail-start s l g t small) j;
        last = (ap (λ b. bit b 64) q ∙ tail-last s l g t small) j;
        toggle = (ap (λ b. bit b 32) q ∙ tail-toggle s l g t small) j;
        transfer = (ap (λ b. b % 32) q ∙ tail-transfer s l g t small) j;
        payload = framed-payload xs (tail_byte s l g t) j;
        time = x;
        interface = i;
      }

  ref-is : (c : List ℕ) (x : ℕ) (z : Session) (v : Parsed) → frame_check u (arrival_at i id c x) ≡ none → parsed u (arrival_at i id c x) ≡ v
      → ref u z (arrival_at i id c x) ≡ react z v
  unfolding ref ref_if
  ref-is c x z v e k = ap (λ o. ref_if o z (parsed u (arrival_at i id c x))) e ∙ ap (λ w. react z w) k

-- a frame of the transfer, whenever it comes
record Copy (u : Setup) (i id t : ℕ) (g : Bool) (c : List ℕ) : Type 0 where
  pub ok : (x : ℕ) → frame_check u (arrival_at i id c x) ≡ none
  pub transfer : (x : ℕ) → (parsed u (arrival_at i id c x)).transfer ≡ t
  pub toggle : (x : ℕ) → (parsed u (arrival_at i id c x)).toggle ≡ g

-- a later frame of the transfer passes the checks, as the first did
module _ (u : Setup) (f : Arrival) (ok : Accepted u f) (named : is_anonymous f.frame.id ≡ false) (t : ℕ) (small : t < 32) where
  module _ (l g : Bool) (xs : List ℕ) (most : length xs ≤ 7) (least : 1 ≤ length xs) (whole : l ≡ false → length xs ≡ 7) where
    abbrev later-data : List ℕ
    later-data = framed xs (tail_byte false l g t)

    size : length later-data ≡ length xs + 1
    size = framed-length xs (tail_byte false l g t)

    good_length : (x : ℕ) → bad_length (length later-data) ≡ false
    good_length x = rw (ne_eqb (length later-data) 0 (λ e. omega (arith, size)), le-ltb 8 (length later-data) (omega (arith, size)))

    good-end : (b : Bool) → l ≡ b → bad_tail false false b g (length later-data) ≡ false
    good-end true e = ne_eqb (length later-data) 1 (λ k. omega (arith, size))
    good-end false e = rw (le-ltb (length later-data) 8 (omega (arith, size, whole e)))

    good-tail : (x : ℕ) → bad_tail_in (arrival_at f.interface f.frame.id later-data x).frame ≡ false
    unfolding parsed
    good-tail x =
        let w = parsed u (arrival_at f.interface f.frame.id later-data x) in
        ap (λ a. bad_tail a w.start w.last w.toggle (length later-data)) named
        ∙ ap (λ v. bad_tail false v.start v.last v.toggle (length later-data)) (sees u f.interface f.frame.id t small false l g xs x)
        ∙ good-end l refl

    copy : Copy u f.interface f.frame.id t g later-data
    copy =
        record {
          ok = λ x. none_of u (arrival_at f.interface f.frame.id later-data x)
              (record { id = ok.id; length = good_length x; interface = ok.interface; service = ok.service; tail = good-tail x; mine = ok.mine; subscribed = ok.subscribed });
          transfer = λ x. ap (λ v. v.transfer) (sees u f.interface f.frame.id t small false l g xs x);
          toggle = λ x. ap (λ v. v.toggle) (sees u f.interface f.frame.id t small false l g xs x);
        }

no-restart : (s : Session) (v : Parsed) → v.time ≤ s.since + switch_delay → distance v.transfer s.expected ≤ 1 → restarts s v ≡ false
unfolding restarts
no-restart s v h k =
    rw (
      le-ltb old_age (v.time - s.since) (omega arith),
      le-ltb switch_delay (v.time - s.since) (omega arith),
      le-ltb 1 (distance v.transfer s.expected) k,
      and-false (eqb v.interface s.follows),
    )
    (and-false v.start)

react-passed : (s : Session) (v : Parsed) (r : Reason) → restarts s v ≡ false → over s v ≡ some r → react s v ≡ record { answer = passed r; session = s }
unfolding proceed proceed_if
react-passed s v r e k = react-stays s v e ∙ ap (λ o. proceed_if o s v) k

react-taken : (s : Session) (v : Parsed) → restarts s v ≡ false → over s v ≡ none → react s v ≡ takes s v
react-taken s v e k = react-stays s v e ∙ proceed-taken s v k

-- ── a frame of another interface, within the delay ──

module _ (s : Session) (v : Parsed) (other : eqb v.interface s.follows ≡ false) where
  other-stays : v.time ≤ s.since + switch_delay → restarts s v ≡ false
  unfolding restarts
  other-stays h =
      rw (le-ltb old_age (v.time - s.since) (omega arith), le-ltb switch_delay (v.time - s.since) (omega arith), other) (and-false v.start)

  other-over : over s v ≡ some other_interface
  unfolding over
  other-over = rw other

checked-elsewhere : (n : ℕ) → UpTo 7 (some n) → elsewhere n ≡ true
checked-elsewhere n (inl h) = rw (le-leb 2 n h.0, le-leb n 7 h.1)
checked-elsewhere n (inr e) = rw e

-- it changes nothing, and ends no transfer
other-passes : (u : Setup) (s : Session) (a : Arrival) → eqb a.interface s.follows ≡ false → a.frame.time ≤ s.since + switch_delay
    → (elsewhere (number_of (ref u s a).answer) ≡ true) × ((ref u s a).session ≡ s)
unfolding ref ref_if parsed
other-passes u s a e h = go (frame_check u a) (frame_small u a)
  where
    go : (o : Option ℕ) → UpTo 7 o → (elsewhere (number_of (ref_if o s (parsed u a)).answer) ≡ true) × ((ref_if o s (parsed u a)).session ≡ s)
    go (some n) k = (checked-elsewhere n k, refl)
    go none k =
        let q = react-passed s (parsed u a) other_interface (other-stays s (parsed u a) e h) (other-over s (parsed u a) e) in
        (ap (λ o. elsewhere (number_of o.answer)) q, ap (λ o. o.session) q)

other-run : (u : Setup) (s : Session) (v : Answer) (single ended : Bool) (a : Arrival) (fs : List Arrival) → eqb a.interface s.follows ≡ false
    → a.frame.time ≤ s.since + switch_delay → Goes s.follows v single ended fs (ref_run u s fs)
    → Goes s.follows v single ended (a ∷ fs) (ref_run u s (a ∷ fs))
unfolding ref_run
other-run u s v single ended a fs e h g =
    let q = other-passes u s a e h in
    rw q.1 (goes_on a (ref u s a).answer (λ z. ap (λ b. b && is_end (tail_of a.frame.bytes)) e) (quiet-elsewhere single ended (number_of (ref u s a).answer) q.0) g)

-- ── a session, frame by frame ──

parsed-time : (u : Setup) (i id : ℕ) (c : List ℕ) (x : ℕ) → (parsed u (arrival_at i id c x)).time ≡ x
unfolding parsed
parsed-time u i id c x = refl

parsed-interface : (u : Setup) (i id : ℕ) (c : List ℕ) (x : ℕ) → (parsed u (arrival_at i id c x)).interface ≡ i
unfolding parsed
parsed-interface u i id c x = refl

end-by : (i id : ℕ) (c : List ℕ) (x : ℕ) (l : Bool) → is_end (tail_of c) ≡ l → end_by i (arrival_at i id c x) ≡ l
end-by i id c x l e = ap (λ b. b && is_end (tail_of c)) (eq-eqb i i refl) ∙ e

quiet-repeat : (single b : Bool) → b ≡ single → quiet single true (number_of (passed (pick b wrong_transfer no_transfer))) ≡ true
quiet-repeat true b e = rw e
quiet-repeat false b e = rw e

-- closed: the transfer's ID is behind the expected one, so each repeat is passed over
module _ (u : Setup) (i id t since : ℕ) (small : t < 32) where
  abbrev idle : Session
  idle = record { expected = next t; gathered = []; toggle = false; since = since; follows = i }

  idle-over : (v : Parsed) → v.interface ≡ i → v.transfer ≡ t → over idle v ≡ some (pick v.start wrong_transfer no_transfer)
  unfolding over
  idle-over v n e =
      let q : eqb v.transfer (next t) ≡ false = rw e (ne_eqb t (next t) (λ k. omega arith)) in
      ap (λ b. over_if b v.start (eqb v.transfer (next t)) true (same_bool v.toggle false)) (eq-eqb v.interface i n)
      ∙ ap (λ b. over_if true v.start b true (same_bool v.toggle false)) q ∙ go v.start (same_bool v.toggle false)
    where
      go : (b g : Bool) → over_if true b false true g ≡ some (pick b wrong_transfer no_transfer)
      go true g = refl
      go false g = refl

  idle-passes : (v : Parsed) → v.interface ≡ i → v.transfer ≡ t → v.time ≤ since + switch_delay
      → react idle v ≡ record { answer = passed (pick v.start wrong_transfer no_transfer); session = idle }
  idle-passes v n e h = react-passed idle v (pick v.start wrong_transfer no_transfer) (no-restart idle v h (rw e (omega arith))) (idle-over v n e)

  -- each repeat of a frame c is a start, or none is
  idle-run : (v : Answer) (single : Bool) (c : List ℕ) (g : Bool) → Copy u i id t g c
      → ((x : ℕ) → (parsed u (arrival_at i id c x)).start ≡ single)
      → (more : List (List ℕ)) (fs : List Arrival) → more ≡ [] → Then i id (since + switch_delay) c more fs → Goes i v single true fs (ref_run u idle fs)
  unfolding ref_run
  idle-run v single c g k st more fs e none_left = over-now
  idle-run v single c g k st more fs e (repeated x h b) =
      rw (ref-is u i id t small c x idle (parsed u (arrival_at i id c x)) (k.ok x) refl
      ∙ idle-passes (parsed u (arrival_at i id c x)) (parsed-interface u i id c x) (k.transfer x) (rw (parsed-time u i id c x) h))
      (goes_on (arrival_at i id c x) _ (λ z. absurd (true≢false z)) (quiet-repeat single (parsed u (arrival_at i id c x)).start (st x))
      (idle-run v single c g k st more _ e b))
  idle-run v single c g k st more fs e (astray {fs = gs} a n h b) = other-run u idle v single true a gs n h (idle-run v single c g k st more _ e b)
  idle-run v single c g k st more fs e (moved x h b) = absurd (nil≢cons (sym e))

same_not : (g : Bool) → same_bool (not g) g ≡ false
same_not true = refl
same_not false = refl

pub same_self : (g : Bool) → same_bool g g ≡ true
same_self true = refl
same_self false = refl

append-hand : (a xs : List ℕ) → is_empty a ≡ false → is_empty (a ++ xs) ≡ false
append-hand [] xs e = absurd (true≢false e)
append-hand (b ∷ a) xs e = refl

-- how a transfer closes depends on the frame's stream, priority and transfer ID alone
same-closing : (b ok : Bool) (all : List ℕ) (v w : Parsed) → v.stream ≡ w.stream → v.priority ≡ w.priority → v.transfer ≡ w.transfer
    → closing b ok all v ≡ closing b ok all w
unfolding closing
same-closing true ok all v w p q r = λ i. handed all (p i) (q i) (r i)
same-closing false true all v w p q r = λ i. handed (drop 2 all) (p i) (q i) (r i)
same-closing false false all v w p q r = refl

-- the answer that closes frames of an ID that carry `all`: alone, or by the checksum in front
abbrev pub verdict : Setup → ℕ → ℕ → List ℕ → Bool → Answer
verdict u id t all single = closing single (sum_ok (or_zero (signature_for u id)) all) all (seen u 0 id t 0 true true false all)

-- ── all the frames that carry some bytes ──

module _ (u : Setup) (f : Arrival) (ok : Accepted u f) (named : is_anonymous f.frame.id ≡ false) (t : ℕ) (small : t < 32) (all : List ℕ) (most : length all ≤ 514) where
  abbrev till : ℕ
  till = f.frame.time + switch_delay

  abbrev gathering : List ℕ → Bool → Session
  gathering a g = record { expected = t; gathered = a; toggle = g; since = f.frame.time; follows = f.interface }

  -- a repeat of what was taken last
  repeat-over : (a : List ℕ) (g : Bool) (v : Parsed) → v.interface ≡ f.interface → is_empty a ≡ false → v.transfer ≡ t → v.toggle ≡ not g
      → over (gathering a g) v ≡ some (pick v.start repeated_start wrong_toggle)
  unfolding over
  repeat-over a g v m n e k =
      let same : same_bool v.toggle g ≡ false = rw k (same_not g) in
      ap (λ b. over_if b v.start (eqb v.transfer t) (is_empty a) (same_bool v.toggle g)) (eq-eqb v.interface f.interface m)
      ∙ ap (λ b. over_if true v.start b (is_empty a) (same_bool v.toggle g)) (eq-eqb v.transfer t e)
      ∙ ap (λ b. over_if true v.start true b (same_bool v.toggle g)) n
      ∙ ap (λ b. over_if true v.start true false b) same
      ∙ go v.start
    where
      go : (b : Bool) → over_if true b true false false ≡ some (pick b repeated_start wrong_toggle)
      go true = refl
      go false = refl

  repeat-passed : (a : List ℕ) (g : Bool) (v : Parsed) → v.interface ≡ f.interface → is_empty a ≡ false → v.transfer ≡ t → v.toggle ≡ not g → v.time ≤ till
      → react (gathering a g) v ≡ record { answer = passed (pick v.start repeated_start wrong_toggle); session = gathering a g }
  repeat-passed a g v m n e k h =
      react-passed (gathering a g) v (pick v.start repeated_start wrong_toggle) (no-restart (gathering a g) v h (rw e (omega arith))) (repeat-over a g v m n e k)

  -- the next frame
  next-taken : (a xs : List ℕ) (g l : Bool) (x : ℕ) → is_empty a ≡ false → length (a ++ xs) ≤ 514 → x ≤ till
      → react (gathering a g) (seen u f.interface f.frame.id t x false l g xs) ≡ take_end l (gathering a g) (seen u f.interface f.frame.id t x false l g xs) (a ++ xs)
  unfolding over takes take_long
  next-taken a xs g l x n h k =
      react-taken (gathering a g) (seen u f.interface f.frame.id t x false l g xs)
      (no-restart (gathering a g) (seen u f.interface f.frame.id t x false l g xs) k (omega arith))
      (rw (same_self g, eq-eqb f.interface f.interface refl, eq-eqb t t refl, n))
      ∙ ap (λ b. take_long b (gathering a g) (seen u f.interface f.frame.id t x false l g xs) (a ++ xs)) (le-ltb 514 (length (a ++ xs)) h)

  closes_as : (single l g : Bool) (x : ℕ) (xs : List ℕ)
      → closing single (sum_ok (or_zero (signature_for u f.frame.id)) all) all (seen u f.interface f.frame.id t x single l g xs) ≡ verdict u f.frame.id t all single
  closes_as single l g x xs =
      same-closing single (sum_ok (or_zero (signature_for u f.frame.id)) all) all (seen u f.interface f.frame.id t x single l g xs) (seen u 0 f.frame.id t 0 true true false all) refl refl refl

  -- the last frame, of several
  closes : (a rest : List ℕ) (g : Bool) (x : ℕ) → is_empty a ≡ false → a ++ rest ≡ all → x ≤ till
      → react (gathering a g) (seen u f.interface f.frame.id t x false true g rest) ≡ record { answer = verdict u f.frame.id t all false; session = idle u f.interface f.frame.id t f.frame.time small }
  unfolding take_end
  closes a rest g x n e h =
      next-taken a rest g true x n (rw e most) h
      ∙ rw e (ap (λ (w : Answer). record { answer = w; session = idle u f.interface f.frame.id t f.frame.time small }) (closes_as false true g x rest))

  -- one that is not the last
  takes_one : (a rest : List ℕ) (g : Bool) (x : ℕ) → is_empty a ≡ false → a ++ rest ≡ all → x ≤ till
      → react (gathering a g) (seen u f.interface f.frame.id t x false false g (take 7 rest)) ≡ record { answer = taken; session = gathering (a ++ take 7 rest) (not g) }
  unfolding take_end
  takes_one a rest g x n e h =
      next-taken a (take 7 rest) g false x n
      (simp (length-append, length-take) (omega (arith, most, simp length-append at (ap length e)))) h

  -- `a` is in hand, `rest` is to come in n full frames and a last one, and of the frame c taken last, no end, only copies may come before the next
  abbrev ToCome : ℕ → Bool → List ℕ → List ℕ → List ℕ → Type 0
  ToCome n g a rest c =
      (is_empty a ≡ false) × (a ++ rest ≡ all) × (7 * n < length rest) × (length rest ≤ 7 * n + 7)
      × Copy u f.interface f.frame.id t (not g) c × (is_end (tail_of c) ≡ false)

  abbrev Goal : Bool → List ℕ → List Arrival → Type 0
  Goal g a fs = Goes f.interface (verdict u f.frame.id t all false) false false fs (ref_run u (gathering a g) fs)

  last_frame : (g : Bool) (a rest c d : List ℕ) (ms : List (List ℕ)) (gs : List Arrival) (x : ℕ) → x ≤ till → ToCome 0 g a rest c
      → d ∷ ms ≡ pieces 0 false g t rest → Then f.interface f.frame.id till d ms gs → Goal g a (arrival_at f.interface f.frame.id d x ∷ gs)
  unfolding ref_run pieces
  last_frame g a rest c d ms gs x h w e b =
      let ed : d ≡ framed rest (tail_byte false true g t) = head-eq_of_cons-eq e in
      let cp = copy u f ok named t small true g rest (omega arith) (omega arith) (λ z. absurd (true≢false z)) in
      let q : ref u (gathering a g) (arrival_at f.interface f.frame.id d x) ≡ record { answer = verdict u f.frame.id t all false; session = idle u f.interface f.frame.id t f.frame.time small } =
      ap (λ y. ref u (gathering a g) (arrival_at f.interface f.frame.id y x)) ed
      ∙ ref-is u f.interface f.frame.id t small (framed rest (tail_byte false true g t)) x (gathering a g) (seen u f.interface f.frame.id t x false true g rest) (cp.ok x)
      (sees u f.interface f.frame.id t small false true g rest x)
      ∙ closes a rest g x w.0 w.1 h in
      rw q
      (closes_by (arrival_at f.interface f.frame.id d x) (end-by f.interface f.frame.id d x true (rw ed (framed-end false true g t small rest)))
      (idle-run u f.interface f.frame.id t f.frame.time small (verdict u f.frame.id t all false) false d g (rw ed cp)
      (λ y. rw ed (ap (λ v. v.start) (sees u f.interface f.frame.id t small false true g rest y))) ms gs (tail-eq_of_cons-eq e) b))

  full-frame : (n : ℕ) (g : Bool) (a rest c d : List ℕ) (ms : List (List ℕ)) (gs : List Arrival) (x : ℕ) → x ≤ till → ToCome (suc n) g a rest c
      → d ∷ ms ≡ pieces (suc n) false g t rest
      → (ToCome n (not g) (a ++ take 7 rest) (drop 7 rest) d → ms ≡ pieces n false (not g) t (drop 7 rest) → Goal (not g) (a ++ take 7 rest) gs)
      → Goal g a (arrival_at f.interface f.frame.id d x ∷ gs)
  unfolding ref_run pieces
  full-frame n g a rest c d ms gs x h w e go =
      let ed : d ≡ framed (take 7 rest) (tail_byte false false g t) = head-eq_of_cons-eq e in
      let s : length (take 7 rest) ≡ 7 = length-take-le 7 rest (omega arith) in
      let cp = copy u f ok named t small false g (take 7 rest) (omega arith) (omega arith) (λ z. s) in
      let q : ref u (gathering a g) (arrival_at f.interface f.frame.id d x) ≡ record { answer = taken; session = gathering (a ++ take 7 rest) (not g) } =
      ap (λ y. ref u (gathering a g) (arrival_at f.interface f.frame.id y x)) ed
      ∙ ref-is u f.interface f.frame.id t small (framed (take 7 rest) (tail_byte false false g t)) x (gathering a g) (seen u f.interface f.frame.id t x false false g (take 7 rest)) (cp.ok x)
      (sees u f.interface f.frame.id t small false false g (take 7 rest) x)
      ∙ takes_one a rest g x w.0 w.1 h in
      let no_end : is_end (tail_of d) ≡ false = rw ed (framed-end false false g t small (take 7 rest)) in
      rw q
      (goes_on (arrival_at f.interface f.frame.id d x) taken (λ z. end-by f.interface f.frame.id d x false no_end) refl
      (go (
        append-hand a (take 7 rest) w.0,
        append_assoc a (take 7 rest) (drop 7 rest) ∙ ap (λ l. a ++ l) (take-append-drop 7 rest) ∙ w.1,
        simp length-drop (omega arith),
        simp length-drop (omega arith),
        rw (ed, not-not g) cp,
        no_end,
      )
      (tail-eq_of_cons-eq e)))

  next-frame : (n : ℕ) (g : Bool) (a rest c d : List ℕ) (ms : List (List ℕ)) (gs : List Arrival) (x : ℕ) → x ≤ till → ToCome n g a rest c
      → d ∷ ms ≡ pieces n false g t rest → Then f.interface f.frame.id till d ms gs
      → ((n : ℕ) (g : Bool) (a rest : List ℕ) → ToCome n g a rest d → ms ≡ pieces n false g t rest → Goal g a gs)
      → Goal g a (arrival_at f.interface f.frame.id d x ∷ gs)
  next-frame zero g a rest c d ms gs x h w e b go = last_frame g a rest c d ms gs x h w e b
  next-frame (suc n) g a rest c d ms gs x h w e b go = full-frame n g a rest c d ms gs x h w e (go n (not g) (a ++ take 7 rest) (drop 7 rest))

  quiet-again : (b : Bool) → quiet false false (number_of (passed (pick b repeated_start wrong_toggle))) ≡ true
  quiet-again true = refl
  quiet-again false = refl

  run_on : (c : List ℕ) (more : List (List ℕ)) (fs : List Arrival) → Then f.interface f.frame.id till c more fs
      → (n : ℕ) (g : Bool) (a rest : List ℕ) → ToCome n g a rest c → more ≡ pieces n false g t rest → Goal g a fs
  unfolding ref_run
  run_on c more fs none_left n g a rest w e = absurd (omega (arith, ap length e, pieces-length n false g t rest))
  run_on c more fs (repeated x h b) n g a rest w e =
      rw (ref-is u f.interface f.frame.id t small c x (gathering a g) (parsed u (arrival_at f.interface f.frame.id c x)) (w.4.ok x) refl
      ∙ repeat-passed a g (parsed u (arrival_at f.interface f.frame.id c x)) (parsed-interface u f.interface f.frame.id c x) w.0 (w.4.transfer x) (w.4.toggle x) (rw (parsed-time u f.interface f.frame.id c x) h))
      (goes_on (arrival_at f.interface f.frame.id c x) _ (λ z. end-by f.interface f.frame.id c x false w.5)
      (quiet-again (parsed u (arrival_at f.interface f.frame.id c x)).start) (run_on c more _ b n g a rest w e))
  run_on c more fs (astray {fs = gs} y n' h b) n g a rest w e =
      other-run u (gathering a g) (verdict u f.frame.id t all false) false false y gs n' h (run_on c more _ b n g a rest w e)
  run_on c more fs (moved {n = d} {more = ms} {fs = gs} x h b) n g a rest w e =
      next-frame n g a rest c d ms gs x h w e b (λ n' g' a' rest' w' e'. run_on d ms gs b n' g' a' rest' w' e')

  -- ── the start ──

  abbrev first : Out
  first = takes (fresh (parsed u f)) (parsed u f)

  module _ (l : Bool) (xs : List ℕ) (e : f.frame.bytes ≡ framed xs (tail_byte true l false t)) where
    first-seen : (x : ℕ) → parsed u (arrival_at f.interface f.frame.id f.frame.bytes x) ≡ seen u f.interface f.frame.id t x true l false xs
    first-seen x = ap (λ c. parsed u (arrival_at f.interface f.frame.id c x)) e ∙ sees u f.interface f.frame.id t small true l false xs x

    first-copy : Copy u f.interface f.frame.id t false f.frame.bytes
    first-copy =
        record {
          ok = λ x. check-time u f x ∙ none_of u f ok;
          transfer = λ x. ap (λ v. v.transfer) (first-seen x);
          toggle = λ x. ap (λ v. v.toggle) (first-seen x);
        }

    first-is : length xs ≤ 7 → first ≡ take_end l (fresh (seen u f.interface f.frame.id t f.frame.time true l false xs)) (seen u f.interface f.frame.id t f.frame.time true l false xs) xs
    unfolding takes take_long
    first-is h =
        ap (λ v. takes (fresh v) v) (first-seen f.frame.time)
        ∙ ap (λ c. take_long c (fresh (seen u f.interface f.frame.id t f.frame.time true l false xs)) (seen u f.interface f.frame.id t f.frame.time true l false xs) xs)
        (le-ltb 514 (length xs) (omega arith))

  abbrev Answered : Bool → List Arrival → Type 0
  Answered single fs = Goes f.interface (verdict u f.frame.id t all single) single false (f ∷ fs) (first.answer ∷ ref_run u first.session fs)

  first-end : (l : Bool) (xs : List ℕ) → f.frame.bytes ≡ framed xs (tail_byte true l false t) → end_by f.interface f ≡ l
  first-end l xs e =
      ap (λ b. b && is_end (tail_of f.frame.bytes)) (eq-eqb f.interface f.interface refl) ∙ ap (λ c. is_end (tail_of c)) e ∙ framed-end true l false t small xs

  -- one frame, and its repeats
  alone : (fs : List Arrival) (more : List (List ℕ)) → length all ≤ 7 → f.frame.bytes ≡ framed all (tail_byte true true false t) → more ≡ []
      → Then f.interface f.frame.id till f.frame.bytes more fs → Answered true fs
  unfolding take_end
  alone fs more h e m b =
      rw (first-is true all e h, closes_as true true false f.frame.time all)
      (closes_by f (first-end true all e)
      (idle-run u f.interface f.frame.id t f.frame.time small (verdict u f.frame.id t all true) true f.frame.bytes false (first-copy true all e)
      (λ y. ap (λ v. v.start) (first-seen true all e y)) more fs m b))

  take-hand : (l : List ℕ) → 7 < length l → is_empty (take 7 l) ≡ false
  take-hand [] h = absurd (omega arith)
  take-hand (b ∷ l) h = refl

  -- several frames
  several : (n : ℕ) (fs : List Arrival) (more : List (List ℕ)) → fulls all ≡ suc n → f.frame.bytes ≡ framed (take 7 all) (tail_byte true false false t)
      → more ≡ pieces n false true t (drop 7 all) → Then f.interface f.frame.id till f.frame.bytes more fs
      → Answered false fs
  unfolding take_end
  several n fs more h e m b =
      let s : 7 < length all = omega arith in
      rw (first-is false (take 7 all) e (simp length-take (omega arith)))
      (goes_on f taken (λ z. first-end false (take 7 all) e) refl
      (run_on f.frame.bytes more fs b n true (take 7 all) (drop 7 all) (
        take-hand all s,
        take-append-drop 7 all,
        simp length-drop (omega arith),
        simp length-drop (omega arith),
        first-copy false (take 7 all) e,
        ap (λ c. is_end (tail_of c)) e ∙ framed-end true false false t small (take 7 all),
      ) m))

  pub closes-once : (fs : List Arrival) → Brings f.interface f.frame.id till (carrying t all) (f ∷ fs)
      → Answered (leb (length all) 7) fs
  unfolding carrying pieces
  closes-once fs b = go (fulls all) refl b
    where
      go : (n : ℕ) → fulls all ≡ n → Brings f.interface f.frame.id till (pieces n true false t all) (f ∷ fs)
          → Answered (leb (length all) 7) fs
      go zero e b =
          let o = opened (eq-eqb f.interface f.interface refl) b in
          let s : length all ≤ 7 = omega arith in
          rw (le-leb (length all) 7 s) (alone fs [] s o.bytes refl (rw (← o.bytes) at o.rest))
      go (suc n) e b =
          let o = opened (eq-eqb f.interface f.interface refl) b in
          rw (lt-leb (length all) 7 (omega arith)) (several n fs _ e o.bytes refl (rw (← o.bytes) at o.rest))
