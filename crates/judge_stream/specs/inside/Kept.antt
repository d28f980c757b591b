-- RULES 19.8: what the code keeps of a stream and reads of a frame, as the pass with little memory sees them.
use Rattle.std.specs.Prelude.{◌≡◌, Bool, true, false, Result, Ok, Err, List, ℕ, ◌≤◌, ◌<◌, eqb, length, drop}
use Rattle.std.proofs.Math.Option.{some}
use Rattle.checksum.specs.Crc16.{checksum}
use Rattle.frame.specs.inside.Head as frame
use Rattle.judge_rules.specs.inside.Brief.{Brief, rests, within, front, grows_to, goes_on}
use Rattle.judge_rules.specs.Good.{Before}
use Rattle.judge_rules.specs.Verdict as rules
use Rattle.judge_rules.specs.Verdict.{Next, goes, refuses}
use Rattle.rules.specs.Frame.{Stream}
use Rattle.rules.specs.Limits.{frame_payload}
use Rattle.rules.specs.Tests.{pick}
use Rattle.judge_stream.specs.declared.Condition.{Condition}
use Rattle.judge_stream.specs.declared.Kept.{Kept}
use Rattle.judge_stream.specs.declared.Seen.{Seen}

abbrev pub before_of : Kept → Before
before_of k = record { transfer = k.transfer; since = k.since }

-- between transfers the count is 0
unfoldable pub brief_in : Kept → Brief
brief_in k =
    pick (eqb k.count 0) (rests (some (before_of k))) (within k.id (before_of k) k.toggle k.count k.sum k.register)

-- what is kept after a frame, or the condition that it fails
abbrev pub Step : Type 0
Step = Result Kept Condition

abbrev pub next_in : Step → Next Brief
next_in (Ok k) = goes (brief_in k)
next_in (Err e) = refuses e.0

abbrev pub stream_of : Seen → Stream
stream_of v = frame.stream_of v.head

-- a frame and the payload beside it
unfoldable pub seen_of : Seen → List ℕ → rules.Seen
seen_of v p =
    record {
      id = v.id;
      start = v.head.start;
      last = v.head.end;
      toggle = v.head.toggle;
      transfer = v.head.transfer;
      payload = p;
      time = v.time;
    }

-- what is kept once a start is taken
abbrev pub opened : ℕ → rules.Seen → Brief
opened signature v =
    pick v.last (rests (some (rules.as_before v)))
    (within v.id (rules.as_before v) true (length v.payload) (front v.payload) (checksum signature (drop 2 v.payload)))

-- a frame that passed check 5: only an end may have room left
pub record Passed (v : Seen) (p : List ℕ) : Type 0 where
  pub transfer : v.head.transfer < 32
  pub size : length p ≤ frame_payload
  pub full : v.head.end ≡ false → length p ≡ frame_payload

-- what a place of the table holds
pub record InRange (k : Kept) : Type 0 where
  pub transfer : k.transfer < 32
  pub count : k.count < 1024

-- what is kept after a frame with this ID
abbrev pub Keeps : ℕ → Step → Type 0
Keeps id (Ok k) = (k.id ≡ id) × InRange k
Keeps id (Err e) = Unit {0}

-- between transfers
abbrev pub resting : ℕ → ℕ → ℕ → Kept
resting id since transfer =
    record { id = id; since = since; transfer = transfer; toggle = false; count = 0; sum = 0; register = 0 }

pub record Opens (signature : ℕ) (v : Seen) (p : List ℕ) (k : Kept) : Type 0 where
  pub brief : brief_in k ≡ opened signature (seen_of v p)
  pub keeps : Keeps v.id (Ok k)

pub record Grows (k : Kept) (count register : ℕ) (last : Bool) (r : Step) : Type 0 where
  pub next : next_in r ≡ grows_to k.id (before_of k) k.toggle count k.sum register last
  pub keeps : Keeps k.id r

-- one frame more of a stream of which b is kept
pub record Follows (signature : ℕ) (b : Brief) (v : Seen) (p : List ℕ) (r : Step) : Type 0 where
  pub next : next_in r ≡ goes_on signature (stream_of v) b (seen_of v p)
  pub keeps : Keeps v.id r
