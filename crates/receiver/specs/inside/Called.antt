-- RULES 4.1, 5.3: what the functions after the checks are called with.
use Rattle.std.specs.Prelude.{◌≡◌, true, false, List, ℕ, ◌≤◌, ◌<◌, length}
use Rattle.rules.specs.Frame.{unnamed}
use Rattle.rules.specs.Limits.{payload_max, frame_data, frame_payload, interfaces_max}
use Rattle.rules.specs.Sound.{stream_fits}
use Rattle.session.specs.inside.Session.{stream_of}
use Rattle.session.specs.declared.Incoming.{Incoming}
use Rattle.state.specs.Sound.{sound_state}

-- a state without a fault, a frame that passed the checks, and room
pub record Accepted (m : List ℕ) (h : Incoming) (bs out : List ℕ) : Type 0 where
  pub sound : sound_state m ≡ true
  pub transfer : h.head.transfer < 32
  pub start : h.head.start ≡ true → h.head.toggle ≡ false
  pub transfer_type : h.head.transfer_type < 3
  pub type : h.head.type_id < 65536
  pub source : h.head.source < 128
  pub named : unnamed (stream_of h) ≡ false → h.head.source ≡ 0 → ⊥
  pub destination : h.head.destination < 128
  pub fits : unnamed (stream_of h) ≡ false → stream_fits (stream_of h) ≡ true
  pub whole : h.head.end ≡ false → 1 < length bs
  pub some_bytes : 0 < length bs
  pub few_bytes : length bs ≤ frame_data
  pub interface : h.interface < interfaces_max
  pub room : payload_max ≤ length out

-- the same of a frame with a named source and its payload
pub record Called (m : List ℕ) (h : Incoming) (p out : List ℕ) : Type 0 where
  pub sound : sound_state m ≡ true
  pub transfer : h.head.transfer < 32
  pub start : h.head.start ≡ true → h.head.toggle ≡ false
  pub transfer_type : h.head.transfer_type < 3
  pub type : h.head.type_id < 65536
  pub source : h.head.source < 128
  pub named : h.head.source ≡ 0 → ⊥
  pub destination : h.head.destination < 128
  pub fits : stream_fits (stream_of h) ≡ true
  pub whole : h.head.end ≡ false → 0 < length p
  pub payload : length p ≤ frame_payload
  pub interface : h.interface < interfaces_max
  pub room : payload_max ≤ length out
