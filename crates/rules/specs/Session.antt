-- RULES 4.3 to 4.8: one session and one frame of its stream. A function that decides is written in stages, by clauses on what it decides.
use Rattle.std.specs.Prelude.{Bool, true, false, not, ◌&&◌, ◌||◌, List, [], ◌∷◌, ◌++◌, ℕ, ◌+◌, ◌*◌, ◌-◌, ◌%◌, ltb, eqb, length, drop}
use Rattle.std.proofs.Math.Option.{Option, none, some}
use Rattle.checksum.specs.Crc16.{checksum}
use Rattle.rules.specs.Answer.{Answer, taken, handed, passed, long, differs, Reason, no_transfer, wrong_toggle, wrong_transfer, repeated_start, other_interface}
use Rattle.rules.specs.Check.{Parsed}
use Rattle.rules.specs.Limits.{gathered_max, old_age, switch_delay}
use Rattle.rules.specs.Tests.{pick, same_bool, is_empty}

-- RULES 4.3: the expected transfer ID, the bytes gathered, the next toggle, the time of the last start taken and the interface that is followed
pub record Session : Type 0 where
  pub expected : ℕ
  pub gathered : List ℕ
  pub toggle : Bool
  pub since : ℕ
  pub follows : ℕ

-- nothing in hand
abbrev pub waiting : ℕ → ℕ → ℕ → Session
waiting expected since follows = record { expected = expected; gathered = []; toggle = false; since = since; follows = follows }

-- RULES 4.4: the forward distance from a to b
abbrev pub distance : ℕ → ℕ → ℕ
distance a b = (b + 32 - a) % 32

-- the transfer ID after t
abbrev pub next : ℕ → ℕ
next t = (t + 1) % 32

-- RULES 4.4: an age above the limit; a frame earlier than the session's time finds age 0
abbrev pub old_since : ℕ → ℕ → Bool
old_since since t = ltb old_age (t - since)

abbrev pub old : ℕ → Session → Bool
old t s = old_since s.since t

-- RULES 4.4: an age at which a session may follow another interface
abbrev pub switch_allowed : ℕ → Session → Bool
switch_allowed t s = ltb switch_delay (t - s.since)

-- ── restart (RULES 4.5) ──

-- of a start: by the followed interface, if it is far behind the expected ID; by any, once a switch is allowed, if it is not far ahead of it
abbrev pub begins : Session → Parsed → Bool
begins s v =
    (eqb v.interface s.follows && ltb 1 (distance v.transfer s.expected))
    || (switch_allowed v.time s && ltb (distance s.expected v.transfer) 16)

unfoldable pub restarts : Session → Parsed → Bool
restarts s v = old v.time s || (v.start && begins s v)

-- the time stays, and the frame's interface is followed; a frame that is no start has the next ID expected
unfoldable pub restarted : Session → Parsed → Session
restarted s v = waiting (pick v.start v.transfer (next v.transfer)) s.since v.interface

-- the session that the rest of the rules reads
unfoldable pub met : Session → Parsed → Session
met s v = pick (restarts s v) (restarted s v) s

-- ── passed over (RULES 4.6) ──

-- of a start: is its ID the expected one, are bytes in hand, is its toggle the next one
abbrev pub over_start : Bool → Bool → Bool → Option Reason
over_start false empty toggle = some wrong_transfer
over_start true false toggle = some repeated_start
over_start true true false = some wrong_toggle
over_start true true true = none

-- of another frame
abbrev pub over_other : Bool → Bool → Bool → Option Reason
over_other expected true toggle = some no_transfer
over_other false false toggle = some wrong_transfer
over_other true false false = some wrong_toggle
over_other true false true = none

-- does it come by the followed interface, is it a start
abbrev pub over_if : Bool → Bool → Bool → Bool → Bool → Option Reason
over_if false start expected empty toggle = some other_interface
over_if true true expected empty toggle = over_start expected empty toggle
over_if true false expected empty toggle = over_other expected empty toggle

unfoldable pub over : Session → Parsed → Option Reason
over s v =
    over_if (eqb v.interface s.follows) v.start (eqb v.transfer s.expected) (is_empty s.gathered) (same_bool v.toggle s.toggle)

-- ── taken (RULES 4.7) ──

-- the answer and the session after
pub record Out : Type 0 where
  pub answer : Answer
  pub session : Session

-- a start sets the time
abbrev pub since_of : Session → Parsed → ℕ
since_of s v = pick v.start v.time s.since

-- RULES 4.8, after 1, 11, 12 and 26: nothing in hand, toggle 0, the expected ID raised by one
abbrev pub closed : Session → ℕ → Session
closed s t = waiting (next s.expected) t s.follows

-- RULES 4.8, case 5: the first two bytes, low byte first, are the checksum of the rest
abbrev pub sum_ok : ℕ → List ℕ → Bool
sum_ok signature [] = false
sum_ok signature (a ∷ []) = false
sum_ok signature (a ∷ b ∷ rest) = eqb (a + 256 * b) (checksum signature rest)

-- RULES 4.8, an end: start and end together hand out the bytes, else the checksum in front decides
unfoldable pub closing : Bool → Bool → List ℕ → Parsed → Answer
closing true ok all v = handed all v.stream v.priority v.transfer
closing false true all v = handed (drop 2 all) v.stream v.priority v.transfer
closing false false all v = differs

unfoldable pub take_end : Bool → Session → Parsed → List ℕ → Out
take_end false s v all =
    record { answer = taken; session = record { expected = s.expected; gathered = all; toggle = not s.toggle; since = since_of s v; follows = s.follows } }
take_end true s v all =
    record { answer = closing v.start (sum_ok v.signature all) all v; session = closed s (since_of s v) }

-- RULES 4.8, case 1: more than 514 bytes in hand, payload and checksum, end the transfer
unfoldable pub take_long : Bool → Session → Parsed → List ℕ → Out
take_long true s v all = record { answer = long; session = closed s (since_of s v) }
take_long false s v all = take_end v.last s v all

unfoldable pub takes : Session → Parsed → Out
takes s v = take_long (ltb gathered_max (length (s.gathered ++ v.payload))) s v (s.gathered ++ v.payload)

-- ── the rule (RULES 4.5, then 4.6 to 4.8) ──

unfoldable pub proceed_if : Option Reason → Session → Parsed → Out
proceed_if (some r) s v = record { answer = passed r; session = s }
proceed_if none s v = takes s v

unfoldable pub proceed : Session → Parsed → Out
proceed s v = proceed_if (over s v) s v

-- a frame that is no start and restarts a session finds no transfer in hand (4.6)
unfoldable pub react : Session → Parsed → Out
react s v = proceed (met s v) v

-- RULES 4.3: a new session, as one restarted by this frame
abbrev pub fresh : Parsed → Session
fresh v = waiting v.transfer v.time v.interface
