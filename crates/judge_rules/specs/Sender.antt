-- RULES 19.10: a run of our sender passes.
use Rattle.std.specs.Prelude.{◌≡◌, true, List, [], ◌∷◌, ◌++◌, ℕ, ◌≤◌, length}
use Rattle.std.proofs.Math.Option.{some}
use Rattle.bits.specs.Order.{Octets}
use Rattle.bits.specs.Tabulate.{tabulate}
use Rattle.rules.specs.Frame.{Frame}
use Rattle.rules.specs.Map.{Map, sound}
use Rattle.rules.specs.Sending.{Call, stream_of, Step, frames_of, send_step}
use Rattle.rules.specs.SendingLaws.{frame_in}
use Rattle.rules.specs.Setup.{Setup, subscribed, kind_of}
use Rattle.judge_rules.specs.Good.{Good, streams_in}
use Rattle.judge_rules.specs.Laws.{Bytes}
use Rattle.judge_rules.specs.Limits.{streams_max}
use Rattle.judge_rules.specs.Verdict.{pass, verdict}

-- a call (RULES 7.1), and how many bytes its output has
pub record Send : Type 0 where
  pub call : Call
  pub room : ℕ

abbrev pub done : Map → Send → Step
done m s = send_step s.call m s.room

-- the frames of the records that a call writes, at its time; a refused call writes none (RULES 7.6)
abbrev pub recorded : ℕ → Step → List Frame
recorded time o = tabulate (frame_in o.records time) 0 (frames_of o.answer)

-- each call gets the map that the last one left
unfoldable pub sent_from : Map → List Send → List Frame
sent_from m [] = []
sent_from m (s ∷ more) = recorded s.call.time (done m s) ++ sent_from (done m s).map more

-- a call after one at the time t
pub record Proper (u : Setup) (own t : ℕ) (c : Call) : Type 0 where
  pub stays : c.own ≡ own
  pub forward : t ≤ c.time
  -- a subscribed type, with its signature
  pub type : subscribed (kind_of (stream_of c)) c.type u.subscriptions ≡ some c.signature
  pub bytes : Octets c.payload

abbrev pub Orderly : Setup → ℕ → ℕ → List Send → Type 0
Orderly u own t [] = Unit {0}
Orderly u own t (s ∷ more) = Proper u own t s.call × Orderly u own s.call.time more

-- what is asked of a run; calls that are refused are calls too
pub record Run (u : Setup) (own : ℕ) (m : Map) (l : List Send) : Type 0 where
  -- the first map has no fault (RULES 8.5)
  pub map : sound m ≡ true
  pub calls : Orderly u own 0 l
  pub few : length (streams_in [] (sent_from m l)) ≤ streams_max

pub record SenderPasses : Type 0 where
  pub good : (u : Setup) (own : ℕ) (m : Map) (l : List Send) → Run u own m l → Good u (sent_from m l)
  pub passes : (u : Setup) (own : ℕ) (m : Map) (l : List Send) → Run u own m l → verdict u (sent_from m l) ≡ pass
  pub bytes : (u : Setup) (own : ℕ) (m : Map) (l : List Send) → Run u own m l → Bytes (sent_from m l)
