-- A call on a lent map: each way through the code does the rules' step on the view.
use mathlib.Core.Path.{◌≡◌, refl, sym, ap, ◌∙◌}
use mathlib.Core.Bool.{Bool, true, false}
use mathlib.Core.List.{List, []}
use mathlib.Core.Option.{Option, none, some}
use Prim.Native.Nat.{ℕ, ◌+◌, ◌*◌, ◌%◌, ◌≤◌, ◌<◌}
use native.Mathlib.Nat.{zero-add}
use native.Mathlib.Omega.{arith}
use borrow.Author.Tests.{eq-eqb, ne_eqb, eqb-true, eqb-false, lt-ltb, le-ltb}
use lib.Dec.{eqb}
use lib.ListN.{length, get_or, set}
use Rattle.answers.specs.Sending.{told}
use Rattle.bits.specs.Order.{Octets}
use Rattle.bits.specs.Part.{splice}
use Rattle.bits.proofs.Tabulate.{tab-at}
use Rattle.id_map.specs.inside.Find.{place_or32}
use Rattle.id_map.specs.Layout.{map_of, slot_at, written, with_slot}
use Rattle.id_map.specs.Sound.{sound_map}
use Rattle.id_map.proofs.Places.{octets-with_slot}
use Rattle.id_map.proofs.Seek.{Below, slot-below, length-map_of}
use Rattle.id_map.proofs.Soundness.{long-enough, slot-fit, keys-odd}
use Rattle.id_map.proofs.Written.{written-kept, written-set}
use Rattle.rules.specs.Map.{Topic, free, used, slot_for, drawn}
use Rattle.rules.specs.Sending.{Call, topic_of, is_response, not_sendable, frame_count, Outcome, unsendable, long, small, full, anonymous_id, id_for, records_of, refuse, transmit, send_at, send_in, send_as, send_step}
use Rattle.rules.specs.SendingLaws.{InRange}
use Rattle.rules.specs.Sent.{sent}
use Rattle.rules.proofs.Draws.{drawn-small}
use Rattle.sender.specs.Send.{call_of, Result, returned, lent, sends_if, sends}
use Rattle.sender.specs.declared.Outgoing.{Outgoing}
use Rattle.std.specs.declared.result.Result.TheVariants.{Ok, Err}
use Rattle.answers.specs.declared.SendError.TheVariants.{OutputSmall, MapFull, TooLong, NotSendable, Faulty}

module _ (m : List ℕ) (fine : sound_map m ≡ true) (bytes : Octets m) where
  -- a map that the rules leave as it was
  pub kept : written m 0 (map_of m) ≡ m
  unfolding map_of
  kept = written-kept m (long-enough m fine) bytes 32 0 (omega arith) (keys-odd m fine)

  -- one with an entry stored
  pub stored_is : (i : ℕ) (k : Topic) (t since : ℕ) → i < 32 → t < 256 → written m 0 (set (map_of m) i (used k t since)) ≡ with_slot m i (used k t since)
  unfolding map_of
  stored_is i k t since h b =
      let l = long-enough m fine in
      let o : Octets (with_slot m (0 + i) (used k t since)) = octets-with_slot m (0 + i) l (omega arith) bytes k t since b in
      written-set m l bytes (used k t since) i 32 0 h (omega arith) o (keys-odd m fine) ∙ ap (λ j. with_slot m j (used k t since)) (zero-add i)

  -- a place of the view
  pub slot_is : (i : ℕ) → i < 32 → get_or (map_of m) i free ≡ slot_at m i
  unfolding map_of
  slot_is i h = tab-at (slot_at m) free 0 32 i h ∙ ap (slot_at m) (zero-add i)

  -- the transfer ID of a topic there
  pub drawn-lt : (k : Topic) (i : ℕ) → i < 32 → drawn k (slot_at m i) < 32
  drawn-lt k i h = drawn-small k (map_of m) (slot_at m i) (slot-fit m fine i h)

  module _ (c : Call) (out : List ℕ) where
    refusal : (o : Outcome) → returned (told o) m out ≡ lent m out (refuse o (map_of m))
    refusal o = λ i. returned (told o) (sym kept i) out

    module _ (room : ℕ) where
      pub misfitting : not_sendable c ≡ true → returned (Err NotSendable) m out ≡ lent m out (send_step c (map_of m) room)
      unfolding send_step
      misfitting e = rw e (refusal unsendable)

      module _ (fits : not_sendable c ≡ false) where
        pub too_long : 512 < length c.payload → returned (Err TooLong) m out ≡ lent m out (send_step c (map_of m) room)
        unfolding send_step
        too_long h = rw (fits, lt-ltb 512 (length c.payload) h) (refusal long)

        module _ (h : length c.payload ≤ 512) where
          pub too_small : room < 13 * frame_count (length c.payload) → returned (Err OutputSmall) m out ≡ lent m out (send_step c (map_of m) room)
          unfolding send_step
          too_small k = rw (fits, le-ltb 512 (length c.payload) h, lt-ltb room (13 * frame_count (length c.payload)) k) (refusal small)

          module _ (k : 13 * frame_count (length c.payload) ≤ room) where
            step_is : (b : Bool) → is_response c ≡ b → send_step c (map_of m) room ≡ send_as b c (map_of m)
            unfolding send_step
            step_is b e = rw (fits, le-ltb 512 (length c.payload) h, le-ltb room (13 * frame_count (length c.payload)) k, e)

            pub responded : c.transfer_type ≡ 2 → (n : ℕ) (out' : List ℕ) → n ≡ frame_count (length c.payload)
                → out' ≡ splice out 0 (records_of (id_for c) (sent c.signature c.transfer c.payload))
                → returned (Ok (record { frames = n; transfer = c.transfer })) m out' ≡ lent m out (send_step c (map_of m) room)
            unfolding send_as transmit
            responded e n out' en eo =
                (λ i. returned (Ok (record { frames = en i; transfer = c.transfer })) (sym kept i) (eo i)) ∙ ap (lent m out) (sym (step_is true (eq-eqb c.transfer_type 2 e)))

            pub numbered : (c.transfer_type ≡ 2 → ⊥) → (r : Result) → r ≡ lent m out (send_in (slot_for (topic_of c) c.time (map_of m)) c (map_of m))
                → r ≡ lent m out (send_step c (map_of m) room)
            unfolding send_as
            numbered e r q = q ∙ ap (lent m out) (sym (step_is false (ne_eqb c.transfer_type 2 e)))

    -- ── a place in the map ──

    abbrev place : Option ℕ
    place = slot_for (topic_of c) c.time (map_of m)

    in_map : Below 32 place
    in_map = rw (length-map_of m) at (slot-below (topic_of c) c.time (map_of m))

    none_left : (o : Option ℕ) → Below 32 o → 31 < place_or32 o → o ≡ none
    none_left none b h = refl
    none_left (some i) b h = absurd (omega arith)

    found : (o : Option ℕ) → place_or32 o ≤ 31 → o ≡ some (place_or32 o)
    found none h = absurd (omega arith)
    found (some i) h = refl

    pub no_place : (i : ℕ) → i ≡ place_or32 place → 31 < i → returned (Err MapFull) m out ≡ lent m out (send_in place c (map_of m))
    unfolding send_in
    no_place i e h = refusal full ∙ ap (λ o. lent m out (send_in o c (map_of m))) (sym (none_left place in_map (omega arith)))

    pub stored : (i t n : ℕ) (m' out' : List ℕ) → i ≡ place_or32 place → i ≤ 31 → t ≡ drawn (topic_of c) (slot_at m i)
        → m' ≡ with_slot m i (used (topic_of c) ((t + 1) % 32) c.time) → n ≡ frame_count (length c.payload)
        → out' ≡ splice out 0 (records_of (id_for c) (sent c.signature t c.payload))
        → returned (Ok (record { frames = n; transfer = t })) m' out' ≡ lent m out (send_in place c (map_of m))
    unfolding send_in send_at transmit
    stored i t n m' out' e h et em en eo =
        let p : place ≡ some i = found place (omega arith) ∙ ap some (sym e) in
        let s : drawn (topic_of c) (get_or (map_of m) i free) ≡ t = ap (drawn (topic_of c)) (slot_is i (omega arith)) ∙ sym et in
        let after = used (topic_of c) ((t + 1) % 32) c.time in
        let w : written m 0 (set (map_of m) i after) ≡ with_slot m i after = stored_is i (topic_of c) ((t + 1) % 32) c.time (omega arith) (omega arith) in
        (λ j. returned (Ok (record { frames = en j; transfer = t })) ((em ∙ sym w) j) (eo j))
        ∙ ap (λ x. lent m out (send_at c i x (map_of m))) (sym s)
        ∙ ap (λ x. lent m out (send_in x c (map_of m))) (sym p)

-- ── a map at fault: 20 ──

pub faulty : (m : List ℕ) (c : Call) (out : List ℕ) → sound_map m ≡ false → returned (Err Faulty) m out ≡ sends m c out
unfolding sends sends_if
faulty m c out e = rw e

pub faultless : (m : List ℕ) (c : Call) (out : List ℕ) (r : Result) → sound_map m ≡ true → r ≡ lent m out (send_step c (map_of m) (length out)) → r ≡ sends m c out
unfolding sends sends_if
faultless m c out r e q = rw e q

-- ── what the parts are called with ──

pub without-payload : (c : Outgoing) (p : List ℕ) → InRange (call_of c p) → InRange (call_of c [])
without-payload c p r =
    record {
      own = r.own;
      transfer_type = r.transfer_type;
      message = r.message;
      service = r.service;
      priority = r.priority;
      response = r.response;
      anonymous = λ z. let a = r.anonymous z in (a.0, (a.1.0, (omega arith, a.1.1.1)));
    }

-- the ID does not depend on the payload
pub same_id : (c : Outgoing) (p : List ℕ) → id_for (call_of c []) ≡ id_for (call_of c p)
unfolding anonymous_id
same_id c p = refl

pub key_in : (c : Call) → InRange c → (c.transfer_type ≡ 2 → ⊥) → (c.transfer_type < 2) × ((c.type < 65536) × (c.destination < 128))
key_in c r n = go (eqb c.transfer_type 0) refl
  where
    go : (b : Bool) → eqb c.transfer_type 0 ≡ b → (c.transfer_type < 2) × ((c.type < 65536) × (c.destination < 128))
    go true e =
        let z = eqb-true c.transfer_type 0 e in
        let k = r.message z in
        (omega arith, (k.0, omega arith))
    go false e =
        let k = r.service (eqb-false c.transfer_type 0 e) in
        (omega (arith, r.transfer_type), (omega arith, k.1.1))
