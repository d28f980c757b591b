-- RULES 19.2 to 19.6: which captures pass, and which could still pass. The frames of each stream are those of transfers that our sending rules give; how
-- to find the transfers is not said here.
use Rattle.std.specs.Prelude.{◌≡◌, Bool, true, ◌&&◌, ◌||◌, List, [], ◌∷◌, ◌++◌, ℕ, ◌+◌, ◌≤◌, ◌<◌, leb, eqb, length, get_or}
use Rattle.std.proofs.Math.Option.{Option, none, some}
use Rattle.bits.specs.Order.{Octets}
use Rattle.rules.specs.Check.{or_zero, large_id, bad_length, unnamed_service, bad_tail, not_subscribed, first}
use Rattle.rules.specs.Condition3.{keep, All}
use Rattle.rules.specs.Frame.{Frame, Stream, same_stream, stream_of, is_anonymous, tail_of, is_start, is_end, toggle_of}
use Rattle.rules.specs.Limits.{payload_max, unused_age}
use Rattle.rules.specs.Sent.{sent, id_of, frame_at}
use Rattle.rules.specs.Session.{next}
use Rattle.rules.specs.Setup.{Setup, subscribed, kind_of}
use Rattle.rules.specs.Tests.{pick}
use Rattle.judge_rules.specs.Limits.{streams_max}

-- ── one transfer (RULES 19.5) ──

-- Each frame that is seen of it has a time, in their order: with fewer times than frames it is cut short.
pub record Transfer : Type 0 where
  pub priority : ℕ
  pub transfer : ℕ
  pub payload : List ℕ
  pub times : List ℕ

-- data under an ID, each with its time
unfoldable pub stamped : ℕ → List (List ℕ) → List ℕ → List Frame
stamped id [] ts = []
stamped id (c ∷ cs) [] = []
stamped id (c ∷ cs) (t ∷ ts) = frame_at id c t ∷ stamped id cs ts

-- the data of all its frames (RULES 7.4)
abbrev pub data_of : ℕ → Transfer → List (List ℕ)
data_of signature x = sent signature x.transfer x.payload

-- those that are seen
abbrev pub frames_of : ℕ → Stream → Transfer → List Frame
frames_of signature d x = stamped (id_of d x.priority) (data_of signature x) x.times

pub record InRange (signature : ℕ) (x : Transfer) : Type 0 where
  pub priority : x.priority < 32
  pub transfer : x.transfer < 32
  pub size : length x.payload ≤ payload_max
  pub bytes : Octets x.payload
  -- a start at least, and no time without a frame
  pub begun : 0 < length x.times
  pub within : length x.times ≤ length (data_of signature x)

-- all of its frames are seen
abbrev pub Whole : ℕ → Transfer → Type 0
Whole signature x = length x.times ≡ length (data_of signature x)

-- ── the transfers of one stream (RULES 19.5) ──

-- of the transfer before: its transfer ID and the time of its start
pub record Before : Type 0 where
  pub transfer : ℕ
  pub since : ℕ

abbrev pub start_of : Transfer → ℕ
start_of x = get_or x.times 0 0

abbrev pub as_before : Transfer → Before
as_before x = record { transfer = x.transfer; since = start_of x }

-- The transfer ID t of a transfer that starts at `now`: any for the first of a stream and for a response, else the next one; or 0, so long after the start
-- before that a sender's map may have dropped the entry (RULES 8.2), which then counts from 0 again (8.3). An earlier time is not after.
abbrev pub may_follow : Stream → Option Before → ℕ → ℕ → Bool
may_follow d none t now = true
may_follow d (some b) t now = eqb d.transfer_type 2 || (eqb t (next b.transfer) || (eqb t 0 && leb (b.since + unused_age) now))

-- only the last transfer of a stream may be cut short
abbrev pub WholeBefore : ℕ → Transfer → List Transfer → Type 0
WholeBefore signature x [] = Unit {0}
WholeBefore signature x (y ∷ ys) = Whole signature x

-- the transfer x after b and before `more`
pub record Link (signature : ℕ) (d : Stream) (b : Option Before) (x : Transfer) (more : List Transfer) : Type 0 where
  pub range : InRange signature x
  pub follows : may_follow d b x.transfer (start_of x) ≡ true
  pub whole : WholeBefore signature x more

-- transfers that one sender may send in this order
abbrev pub Series : ℕ → Stream → Option Before → List Transfer → Type 0
Series signature d b [] = Unit {0}
Series signature d b (x ∷ xs) = Link signature d b x xs × Series signature d (some (as_before x)) xs

-- their frames, in order
unfoldable pub all_frames : ℕ → Stream → List Transfer → List Frame
all_frames signature d [] = []
all_frames signature d (x ∷ xs) = frames_of signature d x ++ all_frames signature d xs

-- RULES 3.6: the signature that a stream's transfers are checked under
unfoldable pub signature_of : Setup → Stream → ℕ
signature_of u d = or_zero (subscribed (kind_of d) d.type u.subscriptions)

-- fs, one for one, are the frames of transfers that may be sent on the stream d after b
pub record Sends (signature : ℕ) (d : Stream) (b : Option Before) (fs : List Frame) : Type 0 where
  pub transfers : List Transfer
  pub series : Series signature d b transfers
  pub frames : fs ≡ all_frames signature d transfers

-- ── the whole capture ──

-- RULES 19.3: the first of the receiver's frame checks (4.1) 2 to 5 and 7 that refuses a frame. There is no interface and no node that it is for, so
-- neither 19 nor 6, and the setup's own ID is not looked at.
unfoldable pub frame_check : Setup → Frame → Option ℕ
frame_check u f =
    first (record { holds = large_id f.id; number = 2 } ∷
    record { holds = bad_length (length f.bytes); number = 3 } ∷
    record { holds = unnamed_service (stream_of f.id); number = 4 } ∷
    record {
      holds = bad_tail (is_anonymous f.id) (is_start (tail_of f.bytes)) (is_end (tail_of f.bytes)) (toggle_of (tail_of f.bytes)) (length f.bytes);
      number = 5;
    } ∷
    record { holds = not_subscribed u f; number = 7 } ∷ [])

abbrev pub Checked : Setup → List Frame → Type 0
Checked u l = All (λ f. frame_check u f ≡ none) l

-- the frames of one stream
unfoldable pub of_stream : Stream → List Frame → List Frame
of_stream d [] = []
of_stream d (f ∷ l) = keep (same_stream (stream_of f.id) d) f (of_stream d l)

-- a stream in a list of different ones, at the end if it is not there yet
unfoldable pub add : Stream → List Stream → List Stream
add d [] = d ∷ []
add d (e ∷ ds) = pick (same_stream e d) (e ∷ ds) (e ∷ add d ds)

-- RULES 19.4: the different streams with a named source, after those of ds
unfoldable pub streams_in : List Stream → List Frame → List Stream
streams_in ds [] = ds
streams_in ds (f ∷ l) = streams_in (pick (is_anonymous f.id) ds (add (stream_of f.id) ds)) l

-- RULES 19.6: a capture that passes
pub record Good (u : Setup) (l : List Frame) : Type 0 where
  pub checks : Checked u l
  pub few : length (streams_in [] l) ≤ streams_max
  pub streams : (d : Stream) → 0 < d.source → Sends (signature_of u d) d none (of_stream d l)

-- RULES 19.6: some continuation of it passes
pub record CouldPass (u : Setup) (l : List Frame) : Type 0 where
  pub continuation : List Frame
  pub good : Good u (l ++ continuation)
