-- A successful send: its transfer ID, its records and the map that it leaves.
use mathlib.Core.Path.{◌≡◌, refl, sym, ap, ◌∙◌, subst}
use mathlib.Core.Bool.{Bool, true, false, true≢false, ◌&&◌}
use mathlib.Core.List.{[]}
use mathlib.Core.Option.{Option, none, some}
use mathlib.Mathlib.Data.Bool.Basic.{and_elim_left, and_intro}
use Prim.Native.Nat.{ℕ, ◌+◌, ◌*◌, ◌/◌, ◌≤◌, ◌<◌}
use native.Mathlib.Omega.{arith}
use lib.Dec.{ltb, leb, eqb}
use lib.ListN.{length, get_or, set, length-set}
use borrow.Author.Tests.{eqb-true, eqb-false, eq-eqb, ne_eqb, ltb-false, lt-ltb}
use Rattle.rules.specs.Map.{Slot, free, used, Map, times, slot_for, drawn, topic_fits, slots_fit, sound}
use Rattle.rules.specs.Sending.{Call, topic_of, stream_of, is_response, not_sendable, frame_count, Outcome, done, unsendable, long, small, full, number_of, frames_of, transfer_of, id_for, records_of, Step, refuse, transmit, send_at, send_in, send_as, send_step}
use Rattle.rules.specs.SendingLaws.{InRange, RecordLaws, offered, transfer_for, Correct, SourceLaws, MapLasts}
use Rattle.rules.specs.Sent.{sent, id_of}
use Rattle.rules.specs.Session.{next}
use Rattle.rules.specs.Tests.{pick}
use Rattle.rules.proofs.Calls.{in-range, stream-in, anonymous-id}
use Rattle.rules.proofs.Draws.{Sought, Given, nowhere, found, fresh, given, Gives, gives, all-fit, drawn-small, kept-found, kept_fresh}
use Rattle.rules.proofs.Records.{sent-length, sent-short, length-records, back}

-- ── refused, or sent under a transfer ID with a map after ──

-- the transfer ID is the one that the map gives, and the map after gives the next
record Drew (c : Call) (m : Map) (t : ℕ) (after : Map) : Type 0 where
  pub is : t ≡ transfer_for c m
  pub raised : is_response c ≡ false → offered (topic_of c) after ≡ next t
  pub unused : is_response c ≡ true → after ≡ m

data Sends (c : Call) (m : Map) (room : ℕ) : Step → Type 0 where
  refused : (o : Outcome) → (frames_of o ≡ 0) × (transfer_of o ≡ 0) → ((n i : ℕ) → o ≡ done n i → ⊥) → Sends c m room (refuse o m)
  went : (t : ℕ) (after : Map) → InRange c → length c.payload ≤ 512 → 13 * frame_count (length c.payload) ≤ room
      → (sound m ≡ true → (t < 32) × (sound after ≡ true)) → Drew c m t after → Sends c m room (transmit c t after)

topic-in : (c : Call) → InRange c → (c.transfer_type ≡ 2 → ⊥) → topic_fits (topic_of c) ≡ true
unfolding topic_fits
topic-in c ok n = go (eqb c.transfer_type 0) refl
  where
    go : (b : Bool) → eqb c.transfer_type 0 ≡ b
        → pick b (ltb c.type 65536 && eqb c.destination 0) (eqb c.transfer_type 1 && (ltb c.type 256 && (ltb 0 c.destination && ltb c.destination 128))) ≡ true
    go true e =
        let r = ok.message (eqb-true c.transfer_type 0 e) in
        and_intro (lt-ltb c.type 65536 r.0) (eq-eqb c.destination 0 r.1)
    go false e =
        let z = eqb-false c.transfer_type 0 e in
        let r = ok.service z in
        let one : c.transfer_type ≡ 1 = omega (arith, ok.transfer_type) in
        and_intro (eq-eqb c.transfer_type 1 one)
        (and_intro (lt-ltb c.type 256 r.0) (and_intro (lt-ltb 0 c.destination r.1.0) (lt-ltb c.destination 128 r.1.1)))

sound-set : (m : Map) (i : ℕ) (s : Slot) → sound m ≡ true → slots_fit (set m i s) (set m i s) ≡ true → sound (set m i s) ≡ true
unfolding sound
sound-set m i s h k = and_intro (eq-eqb (length (set m i s)) 32 (length-set m i s ∙ eqb-true (length m) 32 (and_elim_left _ _ h))) k

module _ (c : Call) (m : Map) (room : ℕ) (ok : InRange c) (size : length c.payload ≤ 512) (space : 13 * frame_count (length c.payload) ≤ room) where
  -- an entry is stored at a place
  module _ (n : c.transfer_type ≡ 2 → ⊥) (i : ℕ) where
    abbrev t : ℕ
    t = drawn (topic_of c) (get_or m i free)

    drew : Gives (topic_of c) m (some i) → Drew c m t (set m i (used (topic_of c) (next t) c.time))
    drew g =
        let e : is_response c ≡ false = ne_eqb c.transfer_type 2 n in
        record {
          is = g.0 ∙ sym (ap (λ b. pick b c.transfer (offered (topic_of c) m)) e);
          raised = λ k. g.1 (next t) c.time;
          unused = λ k. absurd (true≢false (sym k ∙ e));
        }

    drawn-in : sound m ≡ true → t < 32
    drawn-in h = drawn-small (topic_of c) m (get_or m i free) (all-fit m h i)

    at-found : Sought (topic_of c) m i → sound m ≡ true → sound (set m i (used (topic_of c) (next t) c.time)) ≡ true
    at-found f h =
        sound-set m i (used (topic_of c) (next t) c.time) h
        (kept-found m (all-fit m h) i f.inside (topic_of c) (topic-in c ok n) (next t) c.time (omega arith) f.holds)

    at-fresh : i < length m → times (topic_of c) m ≡ 0 → sound m ≡ true → sound (set m i (used (topic_of c) (next t) c.time)) ≡ true
    at-fresh l f h =
        sound-set m i (used (topic_of c) (next t) c.time) h
        (kept_fresh m (all-fit m h) i l (topic_of c) (topic-in c ok n) (next t) c.time (omega arith) f)

  in_map : (c.transfer_type ≡ 2 → ⊥) → (o : Option ℕ) → Given (topic_of c) m o → Gives (topic_of c) m o → Sends c m room (send_in o c m)
  unfolding send_in send_at
  in_map n none nowhere g = refused full (refl, refl) (λ k i e. let z : ◌≡◌ {A = ℕ} 0 1 = cc in omega arith)
  in_map n (some i) (found f) g = went (t n i) (set m i (used (topic_of c) (next (t n i)) c.time)) ok size space (λ h. (drawn-in n i h, at-found n i f h)) (drew n i g)
  in_map n (some i) (fresh l f) g = went (t n i) (set m i (used (topic_of c) (next (t n i)) c.time)) ok size space (λ h. (drawn-in n i h, at-fresh n i l f h)) (drew n i g)

  as-kind : (b : Bool) → is_response c ≡ b → Sends c m room (send_as b c m)
  unfolding send_as
  as-kind true e = went c.transfer m ok size space (λ h. (ok.response (eqb-true c.transfer_type 2 e), h))
      (record { is = sym (ap (λ b. pick b c.transfer (offered (topic_of c) m)) e); raised = λ k. absurd (true≢false (sym e ∙ k)); unused = λ k. refl })
  as-kind false e = in_map (eqb-false c.transfer_type 2 e) (slot_for (topic_of c) c.time m) (given (topic_of c) c.time m) (gives (topic_of c) c.time m)

sends : (c : Call) (m : Map) (room : ℕ) → Sends c m room (send_step c m room)
unfolding send_step
sends c m room = fit (not_sendable c) refl
  where
    roomy : (b : Bool) → ltb room (13 * frame_count (length c.payload)) ≡ b → InRange c → length c.payload ≤ 512
        → Sends c m room (pick b (refuse small m) (send_as (is_response c) c m))
    roomy true e ok size = refused small (refl, refl) (λ k i e. let z : ◌≡◌ {A = ℕ} 0 1 = cc in omega arith)
    roomy false e ok size = as-kind c m room ok size (ltb-false room (13 * frame_count (length c.payload)) e) (is_response c) refl

    short : (b : Bool) → ltb 512 (length c.payload) ≡ b → InRange c
        → Sends c m room (pick b (refuse long m) (pick (ltb room (13 * frame_count (length c.payload))) (refuse small m) (send_as (is_response c) c m)))
    short true e ok = refused long (refl, refl) (λ k i e. let z : ◌≡◌ {A = ℕ} 0 1 = cc in omega arith)
    short false e ok = roomy (ltb room (13 * frame_count (length c.payload))) refl ok (ltb-false 512 (length c.payload) e)

    fit : (b : Bool) → not_sendable c ≡ b
        → Sends c m room
        (pick b (refuse unsendable m)
        (pick (ltb 512 (length c.payload)) (refuse long m) (pick (ltb room (13 * frame_count (length c.payload))) (refuse small m) (send_as (is_response c) c m))))
    fit true e = refused unsendable (refl, refl) (λ k i e. let z : ◌≡◌ {A = ℕ} 0 1 = cc in omega arith)
    fit false e = short (ltb 512 (length c.payload)) refl (in-range c e)

-- ── what is left of the map ──

-- as it was, or with the call's entry at a place
pub data Leaves (c : Call) (m : Map) : Map → Type 0 where
  alone : Leaves c m m
  stored : (i t : ℕ) → i < length m → InRange c → (c.transfer_type ≡ 2 → ⊥) → Leaves c m (set m i (used (topic_of c) (next t) c.time))

pub leaves : (c : Call) (m : Map) (room : ℕ) → Leaves c m (send_step c m room).map
unfolding send_step send_as send_in send_at transmit
leaves c m room = fit (not_sendable c) refl
  where
    placed : (c.transfer_type ≡ 2 → ⊥) → InRange c → (o : Option ℕ) → Given (topic_of c) m o → Leaves c m (send_in o c m).map
    placed n ok none nowhere = alone
    placed n ok (some i) (found f) = stored i (drawn (topic_of c) (get_or m i free)) f.inside ok n
    placed n ok (some i) (fresh l f) = stored i (drawn (topic_of c) (get_or m i free)) l ok n

    of-kind : (b : Bool) → is_response c ≡ b → InRange c → Leaves c m (send_as b c m).map
    of-kind true e ok = alone
    of-kind false e ok = placed (eqb-false c.transfer_type 2 e) ok (slot_for (topic_of c) c.time m) (given (topic_of c) c.time m)

    short : (a b : Bool) → InRange c → Leaves c m (pick a (refuse long m) (pick b (refuse small m) (send_as (is_response c) c m))).map
    short true b ok = alone
    short false true ok = alone
    short false false ok = of-kind (is_response c) refl ok

    fit : (b : Bool) → not_sendable c ≡ b
        → Leaves c m
        (pick b (refuse unsendable m)
        (pick (ltb 512 (length c.payload)) (refuse long m) (pick (ltb room (13 * frame_count (length c.payload))) (refuse small m) (send_as (is_response c) c m)))).map
    fit true e = alone
    fit false e = short (ltb 512 (length c.payload)) (ltb room (13 * frame_count (length c.payload))) (in-range c e)

-- ── the laws ──

sized : (c : Call) (m : Map) (room : ℕ) (s : Step) → Sends c m room s → length s.records ≡ 13 * frames_of s.answer
unfolding transmit
sized c m room s (refused o z n) = omega arith
sized c m room s (went t after ok size space h r) =
    length-records (id_for c) (sent c.signature t c.payload) (sent-short c.signature t c.payload)
    ∙ ap (λ n. 13 * n) (sent-length c.signature t c.payload)

refuses : (c : Call) (m : Map) (room : ℕ) (s : Step) → Sends c m room s → (number_of s.answer ≡ 0 → ⊥) → (s.map ≡ m) × (s.records ≡ [])
unfolding transmit
refuses c m room s (refused o z never) n = (refl, refl)
refuses c m room s (went t after ok size space h r) n = absurd (n refl)

fits-room : (c : Call) (m : Map) (room : ℕ) (s : Step) → Sends c m room s → length s.records ≤ room
unfolding transmit
fits-room c m room s (refused o z n) = omega arith
fits-room c m room s (went t after ok size space h r) = let q = sized c m room s (went t after ok size space h r) in omega arith

few-frames : (n : ℕ) → n ≤ 512 → frame_count n ≤ 74
unfolding frame_count
few-frames n h = go (leb n 7)
  where
    go : (b : Bool) → pick b 1 ((n + 8) / 7) ≤ 74
    go true = omega arith
    go false = omega (arith, h)

few : (c : Call) (m : Map) (room : ℕ) (s : Step) → Sends c m room s → frames_of s.answer ≤ 74
unfolding transmit
few c m room s (refused o z n) = omega arith
few c m room s (went t after ok size space h r) = few-frames (length c.payload) size

small-id : (c : Call) (m : Map) (room : ℕ) (s : Step) → Sends c m room s → sound m ≡ true → transfer_of s.answer < 32
unfolding transmit
small-id c m room s (refused o z n) h = omega (arith, z.1)
small-id c m room s (went t after ok size space k r) h = (k h).0

lasts : (c : Call) (m : Map) (room : ℕ) (s : Step) → Sends c m room s → sound m ≡ true → sound s.map ≡ true
unfolding transmit
lasts c m room s (refused o z n) h = h
lasts c m room s (went t after ok size space k r) h = (k h).1

correct : (c : Call) (m : Map) (room n i : ℕ) (s : Step) → Sends c m room s → sound m ≡ true → s.answer ≡ done n i → 0 < c.own → Correct c m s.records
unfolding transmit
correct c m room n i s (refused o z never) h e named = absurd (never n i e)
correct c m room n i s (went t after ok size space k r) h e named =
    record {
      stream = stream-in c ok named;
      priority = ok.priority;
      payload = size;
      transfer = subst (λ i. i < 32) r.is (k h).0;
      frames = rw (ne_eqb c.own 0 (λ z. omega arith)) (ap (λ i. records_of (id_of (stream_of c) c.priority) (sent c.signature i c.payload)) r.is);
    }

raised : (c : Call) (m : Map) (room n i : ℕ) (s : Step) → Sends c m room s → s.answer ≡ done n i → is_response c ≡ false
    → offered (topic_of c) s.map ≡ next (transfer_for c m)
unfolding transmit
raised c m room n i s (refused o z never) e k = absurd (never n i e)
raised c m room n i s (went t after ok size space h r) e k = r.raised k ∙ ap next r.is

numbered : (c : Call) (m : Map) (room n i : ℕ) (s : Step) → Sends c m room s → s.answer ≡ done n i → i ≡ transfer_for c m
unfolding transmit
numbered c m room n i s (refused o z never) e = absurd (never n i e)
numbered c m room n i s (went t after ok size space h r) e = sym (ap transfer_of e) ∙ r.is

unused : (c : Call) (m : Map) (room : ℕ) (s : Step) → Sends c m room s → is_response c ≡ true → s.map ≡ m
unfolding transmit
unused c m room s (refused o z never) k = refl
unused c m room s (went t after ok size space h r) k = r.unused k

pub record-laws : RecordLaws
record-laws =
    record {
      fits = in-range;
      count = sent-length;
      refusal = λ c m room. refuses c m room (send_step c m room) (sends c m room);
      size = λ c m room. sized c m room (send_step c m room) (sends c m room);
      room = λ c m room. fits-room c m room (send_step c m room) (sends c m room);
      transfer = λ c m room h. small-id c m room (send_step c m room) (sends c m room) h;
      few = λ c m room. few c m room (send_step c m room) (sends c m room);
      back = λ id signature t p time n h k. back id h time (sent signature t p) n (sent-short signature t p) (omega (arith, sent-length signature t p));
    }

pub source-laws : SourceLaws
source-laws =
    record {
      named = λ c m room n i h e named. correct c m room n i (send_step c m room) (sends c m room) h e named;
      anonymous = λ c h z. anonymous-id c (in-range c h) z;
      given = λ c m room n i e. numbered c m room n i (send_step c m room) (sends c m room) e;
      raised = λ c m room n i e k. raised c m room n i (send_step c m room) (sends c m room) e k;
      unused = λ c m room k. unused c m room (send_step c m room) (sends c m room) k;
    }

pub map_lasts : MapLasts
unfolding sound
map_lasts = record { setup = refl; send = λ c m room h. lasts c m room (send_step c m room) (sends c m room) h }
