-- The pass of Verdict.antt with little memory: of the bytes so far it keeps how many they are, the first two as a number, and the checksum of the others.
use Rattle.std.specs.Prelude.{◌≡◌, Bool, true, not, List, ℕ, ◌+◌, ◌*◌, ltb, leb, eqb, length, get_or, drop}
use Rattle.std.proofs.Math.Option.{Option, none, some}
use Rattle.checksum.specs.Crc.{crc_over}
use Rattle.checksum.specs.Crc16.{ccitt, checksum}
use Rattle.rules.specs.Frame.{Frame, Stream}
use Rattle.rules.specs.Limits.{frame_payload, gathered_max}
use Rattle.rules.specs.Setup.{Setup}
use Rattle.rules.specs.Tests.{pick}
use Rattle.judge_rules.specs.Good.{Before, may_follow}
use Rattle.judge_rules.specs.Laws.{Bytes}
use Rattle.judge_rules.specs.Verdict.{Seen, Next, goes, refuses, as_before, continues, Follower, Verdict, verdict_by, verdict}

pub data Brief : Type 0 where
  rests : Option Before → Brief
  -- the ID, the transfer, the next toggle, how many bytes, the first two, the register after the others
  within : ℕ → Before → Bool → ℕ → ℕ → ℕ → Brief

abbrev pub front : List ℕ → ℕ
front l = get_or l 0 0 + 256 * get_or l 1 0

unfoldable pub starts_in : ℕ → Stream → Option Before → Seen → Next Brief
starts_in signature d b v =
    pick (may_follow d b v.transfer v.time)
    (goes (pick v.last (rests (some (as_before v))) (within v.id (as_before v) true (length v.payload) (front v.payload) (checksum signature (drop 2 v.payload)))))
    (refuses 24)

-- with the count and the register after this frame
unfoldable pub grows_to : ℕ → Before → Bool → ℕ → ℕ → ℕ → Bool → Next Brief
grows_to id b toggle n sum register last =
    pick (ltb gathered_max n) (refuses 11)
    (pick last (pick (eqb sum register) (pick (leb n (frame_payload + 2)) (refuses 24) (goes (rests (some b)))) (refuses 12))
    (goes (within id b (not toggle) n sum register)))

unfoldable pub goes_on : ℕ → Stream → Brief → Seen → Next Brief
goes_on signature d (rests b) v = pick v.start (starts_in signature d b v) (refuses 24)
goes_on signature d (within id b toggle n sum register) v =
    pick v.start (refuses 24)
    (pick (continues id b toggle v) (grows_to id b toggle (n + length v.payload) sum (crc_over ccitt register v.payload) v.last) (refuses 24))

abbrev pub summing : Follower
summing = record { State = Brief; first = rests none; follow = goes_on }

unfoldable pub brief_verdict : Setup → List Frame → Verdict
brief_verdict u l = verdict_by summing u l

abbrev pub SameVerdict : Type 0
SameVerdict = (u : Setup) (l : List Frame) → Bytes l → brief_verdict u l ≡ verdict u l
