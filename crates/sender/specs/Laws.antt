-- RULES 7.6, 8.6: what a refusal leaves, and what holds of the map after a send, so that sends can follow each other; `laws.rt` has a function whose contract
-- it is.
use Rattle.std.specs.Prelude.{◌≡◌, true, List, ℕ, ◌^◌, ◌<◌, length}
use Rattle.answers.specs.Sending.{number_of}
use Rattle.bits.specs.Order.{Octets}
use Rattle.id_map.specs.Layout.{map_of}
use Rattle.id_map.specs.Sound.{sound_map}
use Rattle.rules.specs.Sending.{Call, send_step}
use Rattle.sender.specs.Send.{sends}

-- of a map m whose elements are bytes
pub record SendLaws : Type 0 where
  -- RULES 7.6: a refusal, that is every number but 0, leaves each byte of map and output
  pub refusal : (m : List ℕ) (c : Call) (out : List ℕ) → Octets m → (number_of (sends m c out).answer ≡ 0 → ⊥)
      → ((sends m c out).map ≡ m) × ((sends m c out).out ≡ out)
  -- Of a map without a fault and a call at a time of 64 bits:
  -- the bytes hold the map that the rules leave
  pub view : (m : List ℕ) (c : Call) (out : List ℕ) → sound_map m ≡ true → Octets m → c.time < 2 ^ 64
      → map_of (sends m c out).map ≡ (send_step c (map_of m) (length out)).map
  -- without a fault
  pub sound : (m : List ℕ) (c : Call) (out : List ℕ) → sound_map m ≡ true → Octets m → c.time < 2 ^ 64 → sound_map (sends m c out).map ≡ true
