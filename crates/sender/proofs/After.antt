-- After a send: what a refusal leaves; the view of the map, and that it has no fault.
use mathlib.Core.Path.{◌≡◌, refl, ap, ◌∙◌}
use mathlib.Core.Bool.{Bool, true, false}
use mathlib.Core.List.{List}
use Prim.Native.Nat.{ℕ, ◌^◌, ◌≤◌, ◌<◌}
use mathlib.Mathlib.Data.Bool.Basic.{and_elim_right, and_intro}
use native.Mathlib.Omega.{arith}
use borrow.Author.Tests.{le-leb}
use lib.Dec.{leb}
use lib.ListN.{length, set}
use Rattle.answers.proofs.Sending.{told-number}
use Rattle.answers.specs.Sending.{number_of}
use Rattle.bits.specs.Order.{Octets}
use Rattle.bits.specs.Part.{splice}
use Rattle.id_map.specs.Layout.{size, key_of, map_of, with_slot, written}
use Rattle.id_map.specs.Sound.{sound_map}
use Rattle.id_map.proofs.Keys.{topic-key}
use Rattle.id_map.proofs.Places.{Holdable, length-with_slot}
use Rattle.id_map.proofs.Seek.{length-map_of}
use Rattle.id_map.proofs.Soundness.{long-enough}
use Rattle.id_map.proofs.Written.{view-set}
use Rattle.rules.specs.Map as rules
use Rattle.rules.specs.Map.{Map, used}
use Rattle.rules.specs.Sending.{Call, topic_of, send_step}
use Rattle.rules.specs.SendingLaws.{InRange}
use Rattle.rules.specs.Session.{next}
use Rattle.rules.proofs.Sends.{Leaves, alone, stored, leaves, record-laws, map_lasts}
use Rattle.sender.specs.Laws.{SendLaws}
use Rattle.sender.specs.Send.{sends_if, sends}
use Rattle.sender.proofs.Lent.{kept, stored_is, key_in}

-- ── a refusal ──

module _ (m : List ℕ) (c : Call) (out : List ℕ) (bytes : Octets m) where
  refused : (number_of (sends m c out).answer ≡ 0 → ⊥) → ((sends m c out).map ≡ m) × ((sends m c out).out ≡ out)
  unfolding sends sends_if
  refused = go (sound_map m) refl
    where
      go : (b : Bool) → sound_map m ≡ b → (number_of (sends_if b m c out).answer ≡ 0 → ⊥) → ((sends_if b m c out).map ≡ m) × ((sends_if b m c out).out ≡ out)
      go false e n = (refl, refl)
      go true e n =
          let k = record-laws.refusal c (map_of m) (length out) (λ z. n (told-number (send_step c (map_of m) (length out)).answer ∙ z)) in
          (ap (written m 0) k.0 ∙ kept m e bytes, ap (splice out 0) k.1)

-- ── a success ──

-- an entry that a call stores fits the layout
holdable : (c : Call) → InRange c → (c.transfer_type ≡ 2 → ⊥) → c.time < 2 ^ 64 → Holdable (topic_of c) c.time
unfolding key_of
holdable c r n h =
    let k = key_in c r n in
    record { topic = topic-key (topic_of c) k.1.0 k.1.1; word = omega arith; time = h }

-- the bytes after hold the map after, and are as many
record Holds (m : List ℕ) (after : Map) : Type 0 where
  pub view : map_of (written m 0 after) ≡ after
  pub long : size ≤ length (written m 0 after)

module _ (m : List ℕ) (fine : sound_map m ≡ true) (bytes : Octets m) (c : Call) (time : c.time < 2 ^ 64) where
  holds : (after : Map) → Leaves c (map_of m) after → Holds m after
  holds after alone = record { view = ap map_of (kept m fine bytes); long = rw (kept m fine bytes) (long-enough m fine) }
  holds after (stored i t h r n) =
      let entry = used (topic_of c) (next t) c.time in
      let l = long-enough m fine in
      let b : i < 32 = omega (arith, length-map_of m) in
      let w : written m 0 (set (map_of m) i entry) ≡ with_slot m i entry = stored_is m fine bytes i (topic_of c) (next t) c.time b (omega arith) in
      record {
        view = ap map_of w ∙ view-set m l (topic_of c) (next t) c.time (holdable c r n time) i b;
        long = rw (w, length-with_slot m i l b entry) l;
      }

sent-map : (m : List ℕ) (c : Call) (out : List ℕ) → sound_map m ≡ true → (sends m c out).map ≡ written m 0 (send_step c (map_of m) (length out)).map
unfolding sends sends_if
sent-map m c out e = rw e

sound-view : (m : List ℕ) → sound_map m ≡ true → rules.sound (map_of m) ≡ true
unfolding sound_map
sound-view m e = and_elim_right (leb size (length m)) _ e

module _ (m : List ℕ) (c : Call) (out : List ℕ) (fine : sound_map m ≡ true) (bytes : Octets m) (time : c.time < 2 ^ 64) where
  abbrev after : Map
  after = (send_step c (map_of m) (length out)).map

  kept_by : Holds m after
  kept_by = holds m fine bytes c time after (leaves c (map_of m) (length out))

  view-after : map_of (sends m c out).map ≡ after
  view-after = ap map_of (sent-map m c out fine) ∙ kept_by.view

  sound-after : sound_map (sends m c out).map ≡ true
  unfolding sound_map
  sound-after =
      ap sound_map (sent-map m c out fine)
      ∙ and_intro (le-leb size (length (written m 0 after)) kept_by.long) (ap rules.sound kept_by.view ∙ map_lasts.send c (map_of m) (length out) (sound-view m fine))

pub send-laws : SendLaws
send-laws = record { refusal = refused; view = view-after; sound = sound-after }
