-- RULES 4.3, 4.12: what the functions of `place` are called with.
use Rattle.std.specs.Prelude.{◌≡◌, true, false, List, ℕ, ◌+◌, ◌≤◌, ◌<◌, length}
use Rattle.frame.specs.Key.{stream_of_key}
use Rattle.rules.specs.Blocks.{stale}
use Rattle.rules.specs.Limits.{sessions_max, payload_max, gathered_max, frame_payload, interfaces_max}
use Rattle.rules.specs.Session.{over}
use Rattle.rules.specs.Sound.{stream_fits}
use Rattle.rules.specs.Tests.{is_none}
use Rattle.session.specs.declared.Incoming.{Incoming}
use Rattle.session.specs.declared.Session.{Session}
use Rattle.session.specs.inside.Session.{stream_of, parsed_of}
use Rattle.sessions.specs.inside.Place.{coded_at}
use Rattle.state.specs.Layout.{key_at, count_at, session_at}
use Rattle.state.specs.inside.Ready.{Ready}

-- the session of place i is c, the one that the frame meets
pub record Met (m : List ℕ) (i k : ℕ) (c : Session) (h : Incoming) (p out : List ℕ) : Type 0 where
  pub ready : Ready m
  pub place : i < sessions_max
  pub key : key_at m i ≡ k
  pub stream : stream_of_key k ≡ stream_of h
  pub fits : stream_fits (stream_of h) ≡ true
  pub coded : c ≡ coded_at m i
  pub calm : stale h.time (session_at m i) ≡ false
  pub start : h.head.start ≡ true → h.head.toggle ≡ false
  pub transfer : h.head.transfer < 32
  pub interface : h.interface < interfaces_max
  pub payload : length p ≤ frame_payload
  pub whole : h.head.end ≡ false → 0 < length p
  pub room : payload_max ≤ length out

-- RULES 4.6, 4.8: the frame is the one that this session waits for, and its bytes are not too many
pub record Takes (m : List ℕ) (i : ℕ) (h : Incoming) (p : List ℕ) : Type 0 where
  pub awaited : is_none (over (session_at m i) (parsed_of h p)) ≡ true
  pub few : count_at m i + length p ≤ gathered_max
