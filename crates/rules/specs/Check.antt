-- RULES 4.1: what the rules read of a frame (2.2 to 2.4, 2.7, 3.6), and the frame checks: 2, 3, 19 and 4 to 8.
use Rattle.std.specs.Prelude.{Bool, true, false, not, ◌&&◌, ◌||◌, List, [], ◌∷◌, ◌++◌, ℕ, ◌^◌, ltb, leb, eqb, length}
use Rattle.std.proofs.Math.Option.{Option, none, some}
use Rattle.rules.specs.Frame.{Frame, Arrival, Stream, priority_of, is_service_stream, unnamed, stream_of, tail_of, payload_of, is_start, is_end, toggle_of, transfer_of}
use Rattle.rules.specs.Limits.{frame_data, interfaces_max, payload_max}
use Rattle.rules.specs.Setup.{Setup, signature_for}
use Rattle.rules.specs.Tests.{pick, is_none}

-- a frame as it comes, and how many bytes the output buffer has
pub record Reception : Type 0 where
  pub arrival : Arrival
  pub room : ℕ

-- what RULES 4.3 to 4.8 read of a frame that passes the checks
pub record Parsed : Type 0 where
  pub stream : Stream
  pub signature : ℕ
  pub priority : ℕ
  pub start : Bool
  pub last : Bool
  pub toggle : Bool
  pub transfer : ℕ
  pub payload : List ℕ
  pub time : ℕ
  pub interface : ℕ

abbrev pub or_zero : Option ℕ → ℕ
or_zero none = 0
or_zero (some n) = n

unfoldable pub parsed : Setup → Arrival → Parsed
parsed u a =
    record {
      stream = stream_of a.frame.id;
      signature = or_zero (signature_for u a.frame.id);
      priority = priority_of a.frame.id;
      start = is_start (tail_of a.frame.bytes);
      last = is_end (tail_of a.frame.bytes);
      toggle = toggle_of (tail_of a.frame.bytes);
      transfer = transfer_of (tail_of a.frame.bytes);
      payload = payload_of a.frame.bytes;
      time = a.frame.time;
      interface = a.interface;
    }

-- ── the checks (RULES 4.1), each true where it refuses ──

abbrev pub large_id : ℕ → Bool
large_id id = leb (2 ^ 29) id

abbrev pub bad_length : ℕ → Bool
bad_length n = eqb n 0 || ltb frame_data n

abbrev pub no_interface : ℕ → Bool
no_interface i = leb interfaces_max i

abbrev pub unnamed_service : Stream → Bool
unnamed_service d = is_service_stream d && (eqb d.source 0 || eqb d.destination 0)

-- 5: a start with toggle 1; anonymous but not start and end; not an end and not full; an end that is no start, with the tail byte alone
abbrev pub bad_tail : Bool → Bool → Bool → Bool → ℕ → Bool
bad_tail anonymous start last toggle n =
    (start && toggle) || ((anonymous && not (start && last)) || ((not last && ltb n frame_data) || (last && (not start && eqb n 1))))

abbrev pub for_another : ℕ → Stream → Bool
for_another own d = is_service_stream d && not (eqb d.destination own)

abbrev pub not_subscribed : Setup → Frame → Bool
not_subscribed u f = is_none (signature_for u f.id)

-- ── in their order ──

pub record Test : Type 0 where
  pub holds : Bool
  pub number : ℕ

-- 2 and 3: a frame of n data bytes that cannot be read; 19: one that comes by no interface of ours
abbrev pub read_tests : ℕ → ℕ → ℕ → List Test
read_tests id n i =
    record { holds = large_id id; number = 2 } ∷
    record { holds = bad_length n; number = 3 } ∷
    record { holds = no_interface i; number = 19 } ∷ []

-- 4 to 6: its stream and the flags of its tail
abbrev pub head_tests : ℕ → Stream → Bool → Bool → Bool → ℕ → List Test
head_tests own d start last toggle n =
    record { holds = unnamed_service d; number = 4 } ∷
    record { holds = bad_tail (unnamed d) start last toggle n; number = 5 } ∷
    record { holds = for_another own d; number = 6 } ∷ []

-- all but 8 look at the setup and the frame as it comes alone
abbrev pub frame_tests : Setup → Arrival → List Test
frame_tests u a =
    read_tests a.frame.id (length a.frame.bytes) a.interface
    ++ (head_tests u.own (stream_of a.frame.id) (is_start (tail_of a.frame.bytes)) (is_end (tail_of a.frame.bytes))
    (toggle_of (tail_of a.frame.bytes)) (length a.frame.bytes)
    ++ (record { holds = not_subscribed u a.frame; number = 7 } ∷ []))

-- the first that holds answers
abbrev pub first : List Test → Option ℕ
first [] = none
first (t ∷ ts) = pick t.holds (some t.number) (first ts)

unfoldable pub frame_check : Setup → Arrival → Option ℕ
frame_check u a = first (frame_tests u a)

-- 8 comes last: no room for the longest payload
abbrev pub room_check : Option ℕ → Bool → Option ℕ
room_check (some n) b = some n
room_check none true = some 8
room_check none false = none

unfoldable pub check : Setup → Reception → Option ℕ
check u r = room_check (frame_check u r.arrival) (ltb r.room payload_max)
