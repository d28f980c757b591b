-- A send leaves bytes in the map.
use mathlib.Core.Path.{◌≡◌}
use mathlib.Core.Bool.{true}
use mathlib.Core.List.{List}
use Prim.Native.Nat.{ℕ, ◌<◌}
use native.Mathlib.Omega.{arith}
use lib.ListN.{length, set}
use Rattle.bits.specs.Order.{Octets}
use Rattle.id_map.specs.Layout.{map_of, with_slot, written}
use Rattle.id_map.specs.Sound.{sound_map}
use Rattle.id_map.proofs.Places.{octets-with_slot}
use Rattle.id_map.proofs.Seek.{length-map_of}
use Rattle.id_map.proofs.Soundness.{long-enough}
use Rattle.rules.specs.Map.{Map, used}
use Rattle.rules.specs.Sending.{Call, topic_of, send_step}
use Rattle.rules.specs.Session.{next}
use Rattle.rules.proofs.Sends.{Leaves, alone, stored, leaves}
use Rattle.sender.specs.Send.{sends_if, sends}
use Rattle.sender.proofs.Lent.{kept, stored_is}

module _ (m : List ℕ) (fine : sound_map m ≡ true) (bytes : Octets m) (c : Call) where
  left : (after : Map) → Leaves c (map_of m) after → Octets (written m 0 after)
  left after alone = rw (kept m fine bytes) bytes
  left after (stored i t h r n) =
      let b : i < 32 = omega (arith, length-map_of m) in
      let w : written m 0 (set (map_of m) i (used (topic_of c) (next t) c.time)) ≡ with_slot m i (used (topic_of c) (next t) c.time) =
      stored_is m fine bytes i (topic_of c) (next t) c.time b (omega arith) in
      rw w (octets-with_slot m i (long-enough m fine) (omega arith) bytes (topic_of c) (next t) c.time (omega arith))

  module _ (out : List ℕ) where
    sent-map : (sends m c out).map ≡ written m 0 (send_step c (map_of m) (length out)).map
    unfolding sends sends_if
    sent-map = rw fine

    pub bytes-sent : Octets (sends m c out).map
    bytes-sent = rw sent-map (left (send_step c (map_of m) (length out)).map (leaves c (map_of m) (length out)))
