-- RULES 19.12: captures and their verdicts, row by row, as one list and one claim.
use Rattle.std.specs.Prelude.{◌≡◌, true, false, List, [], ◌∷◌, ◌++◌, map, ℕ, ◌+◌, replicate}
use Rattle.bits.specs.Tabulate.{tabulate}
use Rattle.rules.specs.Frame.{Frame}
use Rattle.rules.specs.Sent.{frame_at}
use Rattle.rules.specs.SentLaws.{opening}
use Rattle.rules.specs.Setup.{Setup}
use Rattle.judge_rules.specs.Verdict.{Verdict, pass, fail, verdict}

pub record Sample : Type 0 where
  pub frames : List Frame
  pub judged : Verdict

abbrev pub is : List Frame → Verdict → Sample
is frames judged = record { frames = frames; judged = judged }

-- NodeStatus and GetNodeInfo
abbrev pub setup : Setup
setup =
    record {
      own = 0;
      subscriptions =
          record { kind = 0; type = 341; signature = 0x0F0868D0C1A7C6F1 } ∷
          record { kind = 1; type = 1; signature = 0xEE468A8121C46A9E } ∷ [];
    }

-- ── frames ──

-- under an ID, at the time 0
abbrev pub by : ℕ → List ℕ → Frame
by id bytes = frame_at id bytes 0

-- a message of type 341 from node 42, at a time
abbrev pub at : ℕ → List ℕ → Frame
at time bytes = frame_at 0x1001552A bytes time

abbrev pub now : List ℕ → Frame
now bytes = at 0 bytes

-- a tail byte alone
abbrev pub tail : ℕ → List ℕ
tail t = t ∷ []

-- the same with another priority; a message from node 43; a request from node 43 to 42, and a response
abbrev pub urgent : ℕ
urgent = 0x0301552A

abbrev pub second : ℕ
second = 0x1001552B

abbrev pub request : ℕ
request = 0x1001AAAB

abbrev pub response : ℕ
response = 0x10012AAB

-- ── data ──

abbrev pub a : List ℕ
a = 0x81 ∷ 0x63 ∷ 0 ∷ 1 ∷ 2 ∷ 3 ∷ 4 ∷ 0x85 ∷ []

abbrev pub b : List ℕ
b = 5 ∷ 6 ∷ 7 ∷ 0x65 ∷ []

abbrev pub c : List ℕ
c = 0x6F ∷ 0x77 ∷ 0 ∷ 1 ∷ 2 ∷ 3 ∷ 4 ∷ 0x85 ∷ []

abbrev pub d : List ℕ
d = 5 ∷ 6 ∷ 7 ∷ 8 ∷ 9 ∷ 10 ∷ 11 ∷ 0x25 ∷ []

abbrev pub e : List ℕ
e = 12 ∷ 0x45 ∷ []

abbrev pub f : List ℕ
f = 0x67 ∷ 0xAC ∷ 0 ∷ 1 ∷ 2 ∷ 3 ∷ 4 ∷ 0x85 ∷ []

abbrev pub g : List ℕ
g = 5 ∷ 6 ∷ 0x65 ∷ []

-- b with another payload, and d with another transfer ID
abbrev pub other : List ℕ
other = 5 ∷ 6 ∷ 8 ∷ 0x65 ∷ []

abbrev pub stray : List ℕ
stray = 5 ∷ 6 ∷ 7 ∷ 8 ∷ 9 ∷ 10 ∷ 11 ∷ 0x26 ∷ []

-- c, and n frames more without an end
abbrev pub endless : ℕ → List Frame
endless n = now c ∷ map now (opening n false true 5 (replicate 511 0))

-- a start from each of the nodes 1 to 64
abbrev pub nodes : List Frame
nodes = tabulate (λ n. by (0x10015500 + n) (tail 0xC0)) 1 64

-- ── the rows ──

abbrev pub samples : List Sample
samples =
    is [] pass ∷
    is (now a ∷ now b ∷ now (tail 0xC6) ∷ now (tail 0xC7) ∷ []) pass ∷
    is (now (tail 0xDF) ∷ now (tail 0xC0) ∷ []) pass ∷
    is (now (tail 0xC5) ∷ now (tail 0xC7) ∷ []) (fail 24 1) ∷
    is (now a ∷ now b ∷ now a ∷ now b ∷ []) (fail 24 2) ∷
    is (at 1 (tail 0xC5) ∷ at 2000001 (tail 0xC0) ∷ []) pass ∷
    is (at 1 (tail 0xC5) ∷ at 2000001 (tail 0xC6) ∷ []) pass ∷
    is (at 1 (tail 0xC5) ∷ at 2000001 (tail 0xC7) ∷ []) (fail 24 1) ∷
    is (at 1 (tail 0xC5) ∷ at 2000000 (tail 0xC0) ∷ []) (fail 24 1) ∷
    is (at 3000000 (tail 0xC5) ∷ at 1 (tail 0xC0) ∷ []) (fail 24 1) ∷
    is (at 0 c ∷ at 2000000 d ∷ at 2000000 e ∷ at 2000000 (tail 0xC0) ∷ []) pass ∷
    is (at 0 c ∷ at 5000000 d ∷ at 0 e ∷ at 1999999 (tail 0xC0) ∷ []) (fail 24 3) ∷
    is (now c ∷ now d ∷ []) pass ∷
    is (now c ∷ now d ∷ now (tail 0xC6) ∷ []) (fail 24 2) ∷
    is (now c ∷ by second c ∷ now d ∷ by second d ∷ now e ∷ []) pass ∷
    is (now c ∷ now e ∷ []) (fail 24 1) ∷
    is (now c ∷ now stray ∷ now e ∷ []) (fail 24 1) ∷
    is (now d ∷ now e ∷ []) (fail 24 0) ∷
    is (now a ∷ now a ∷ now b ∷ now b ∷ []) (fail 24 1) ∷
    is (now c ∷ by urgent d ∷ now e ∷ []) (fail 24 1) ∷
    is (now a ∷ now b ∷ by urgent (tail 0xC6) ∷ []) pass ∷
    is (now a ∷ now other ∷ []) (fail 12 1) ∷
    is (now a ∷ by urgent other ∷ []) (fail 24 1) ∷
    is (now f ∷ now g ∷ []) (fail 24 1) ∷
    is (now f ∷ now (5 ∷ 7 ∷ 0x65 ∷ []) ∷ []) (fail 12 1) ∷
    is (by request (tail 0xC5) ∷ by request (tail 0xC5) ∷ []) (fail 24 1) ∷
    is (by response (tail 0xC5) ∷ by response (tail 0xC5) ∷ by response (tail 0xC0) ∷ []) pass ∷
    is (now (tail 0xC5) ∷ by 0x3001552A (tail 0xC6) ∷ []) (fail 2 1) ∷
    is (now (tail 0xC5) ∷ now [] ∷ []) (fail 3 1) ∷
    is (by 0x1001AA80 (tail 0xC5) ∷ []) (fail 4 0) ∷
    is (now a ∷ now (tail 0x65) ∷ []) (fail 5 1) ∷
    is (now (tail 0xC5) ∷ by 0x1001562A (tail 0xC5) ∷ []) (fail 7 1) ∷
    is (by 0x10010100 (tail 0xC5) ∷ now (tail 0xC5) ∷ []) (fail 7 0) ∷
    is nodes pass ∷
    is (nodes ++ by 0x10015541 (tail 0xC0) ∷ []) (fail 9 64) ∷
    is (nodes ++ by 0x10015541 e ∷ []) (fail 9 64) ∷
    is (endless 72) pass ∷
    is (endless 73) (fail 11 73) ∷
    is (now a ∷ now (5 ∷ 6 ∷ 7 ∷ 0x65 ∷ 0 ∷ 0 ∷ 0 ∷ 0 ∷ 0 ∷ []) ∷ []) (fail 3 1) ∷ []

abbrev pub Samples : Type 0
Samples = map (λ s. verdict setup s.frames) samples ≡ map (λ s. s.judged) samples
