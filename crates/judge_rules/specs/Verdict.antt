-- RULES 19.8: the verdict, by one pass over the capture with a state for each stream. Laws.antt and Numbers.antt say what it means.
use Rattle.std.specs.Prelude.{Bool, true, false, not, ◌&&◌, List, [], ◌∷◌, ◌++◌, ℕ, suc, ◌+◌, ltb, leb, eqb, length}
use Rattle.std.proofs.Math.Option.{Option, none, some}
use Rattle.rules.specs.Frame.{Frame, Stream, same_stream, stream_of, is_anonymous, tail_of, payload_of, is_start, is_end, toggle_of, transfer_of}
use Rattle.rules.specs.Limits.{frame_payload, gathered_max}
use Rattle.rules.specs.Session.{sum_ok}
use Rattle.rules.specs.Setup.{Setup}
use Rattle.rules.specs.Tests.{pick, same_bool}
use Rattle.judge_rules.specs.Good.{Before, may_follow, signature_of, frame_check, add}
use Rattle.judge_rules.specs.Limits.{streams_max}

-- ── one stream ──

-- what is read of a frame
pub record Seen : Type 0 where
  pub id : ℕ
  pub start : Bool
  pub last : Bool
  pub toggle : Bool
  pub transfer : ℕ
  pub payload : List ℕ
  pub time : ℕ

unfoldable pub seen : Frame → Seen
seen f =
    record {
      id = f.id;
      start = is_start (tail_of f.bytes);
      last = is_end (tail_of f.bytes);
      toggle = toggle_of (tail_of f.bytes);
      transfer = transfer_of (tail_of f.bytes);
      payload = payload_of f.bytes;
      time = f.time;
    }

pub data Followed : Type 0 where
  -- between transfers: the one before, if any
  idle : Option Before → Followed
  -- in a transfer: its ID, its transfer ID and start, the next toggle and the bytes so far
  amid : ℕ → Before → Bool → List ℕ → Followed

-- the state after a frame, or the number that it fails with
pub data Next (S : Type 0) : Type 0 where
  goes : S → Next S
  refuses : ℕ → Next S

abbrev pub as_before : Seen → Before
as_before v = record { transfer = v.transfer; since = v.time }

abbrev pub opened : Seen → Followed
opened v = pick v.last (idle (some (as_before v))) (amid v.id (as_before v) true v.payload)

unfoldable pub begins : Stream → Option Before → Seen → Next Followed
begins d b v = pick (may_follow d b v.transfer v.time) (goes (opened v)) (refuses 24)

-- the frame's ID, transfer ID and toggle are those that the transfer goes on with
abbrev pub continues : ℕ → Before → Bool → Seen → Bool
continues id b toggle v = eqb id v.id && (eqb b.transfer v.transfer && same_bool toggle v.toggle)

-- with all the bytes so far; 24 for a payload that one frame carries
unfoldable pub extends : ℕ → ℕ → Before → Bool → List ℕ → Seen → Next Followed
extends signature id b toggle all v =
    pick (ltb gathered_max (length all)) (refuses 11)
    (pick v.last
    (pick (sum_ok signature all) (pick (leb (length all) (frame_payload + 2)) (refuses 24) (goes (idle (some b)))) (refuses 12))
    (goes (amid id b (not toggle) all)))

unfoldable pub follow : ℕ → Stream → Followed → Seen → Next Followed
follow signature d (idle b) v = pick v.start (begins d b v) (refuses 24)
follow signature d (amid id b toggle gathered) v =
    pick v.start (refuses 24) (pick (continues id b toggle v) (extends signature id b toggle (gathered ++ v.payload) v) (refuses 24))

-- ── all streams, each with a state S ──

pub record Entry (S : Type 0) : Type 0 where
  pub stream : Stream
  pub state : S

unfoldable pub streams : {S : Type 0} → List (Entry S) → List Stream
streams [] = []
streams (e ∷ es) = e.stream ∷ streams es

-- the state of a stream; s, where it has no entry yet
unfoldable pub state_of : {S : Type 0} → S → Stream → List (Entry S) → S
state_of s d [] = s
state_of s d (e ∷ es) = pick (same_stream e.stream d) e.state (state_of s d es)

unfoldable pub put : {S : Type 0} → Stream → S → List (Entry S) → List (Entry S)
put d s [] = record { stream = d; state = s } ∷ []
put d s (e ∷ es) = pick (same_stream e.stream d) (record { stream = e.stream; state = s } ∷ es) (e ∷ put d s es)

-- so far nothing is wrong, after so many frames; or a number and the frame that it is for
pub data Judging (S : Type 0) : Type 0 where
  on : ℕ → List (Entry S) → Judging S
  off : ℕ → ℕ → Judging S

unfoldable pub entered : {S : Type 0} → ℕ → Stream → List (Entry S) → Next S → Judging S
entered i d st (goes s) = on (suc i) (put d s st)
entered i d st (refuses n) = off n i

-- how a stream is followed: the states, the first of them, and what a frame does to one, by signature and stream
pub record Follower : Type 1 where
  pub State : Type 0
  pub first : State
  pub follow : ℕ → Stream → State → Seen → Next State

module _ (F : Follower) (u : Setup) where
  -- a frame of the stream d, which has a named source
  unfoldable pub named : ℕ → Stream → List (Entry F.State) → Frame → Judging F.State
  named i d st f =
      pick (ltb streams_max (length (add d (streams st)))) (off 9 i)
      (entered i d st (F.follow (signature_of u d) d (state_of F.first d st) (seen f)))

  unfoldable pub judged : Option ℕ → Bool → ℕ → List (Entry F.State) → Frame → Judging F.State
  judged (some n) anonymous i st f = off n i
  judged none true i st f = on (suc i) st
  judged none false i st f = named i (stream_of f.id) st f

  unfoldable pub advance : Judging F.State → Frame → Judging F.State
  advance (off n i) f = off n i
  advance (on i st) f = judged (frame_check u f) (is_anonymous f.id) i st f

  unfoldable pub run : Judging F.State → List Frame → Judging F.State
  run j [] = j
  run j (f ∷ l) = run (advance j f) l

pub data Verdict : Type 0 where
  pass : Verdict
  -- the number and the frame, counted from 0
  fail : ℕ → ℕ → Verdict

abbrev pub verdict_of : {S : Type 0} → Judging S → Verdict
verdict_of (on i st) = pass
verdict_of (off n i) = fail n i

unfoldable pub verdict_by : Follower → Setup → List Frame → Verdict
verdict_by F u l = verdict_of (run F u (on 0 []) l)

-- with the bytes of each transfer in hand
abbrev pub gathering : Follower
gathering = record { State = Followed; first = idle none; follow = follow }

unfoldable pub verdict : Setup → List Frame → Verdict
verdict u l = verdict_by gathering u l
