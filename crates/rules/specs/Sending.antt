-- RULES 7.1 to 7.6, with 2.5, 2.6 and 8.3: one call to send. Its answer, the map after it and the records that it writes.
use Rattle.std.specs.Prelude.{Bool, true, false, not, ◌&&◌, ◌||◌, List, [], ◌∷◌, ◌++◌, ℕ, ◌+◌, ◌*◌, ◌-◌, ◌/◌, ltb, leb, eqb, length, get_or, set, replicate}
use Rattle.std.proofs.Math.Option.{Option, none, some}
use Rattle.bits.specs.Little.{le_bytes}
use Rattle.rules.specs.Frame.{Stream}
use Rattle.rules.specs.Limits.{frame_record, payload_max}
use Rattle.rules.specs.Map.{Topic, free, used, Map, slot_for, drawn}
use Rattle.rules.specs.Sent.{sent, id_of}
use Rattle.rules.specs.Session.{next}
use Rattle.rules.specs.Tests.{pick}

-- RULES 7.1. The own ID 0 sends anonymously. The transfer type is 0 for a message, 1 for a request, 2 for a response. The transfer ID is
-- read for a response alone and the discriminator for an anonymous message alone: elsewhere they may have any value.
pub record Call : Type 0 where
  pub own : ℕ
  pub transfer_type : ℕ
  pub type : ℕ
  pub destination : ℕ
  pub priority : ℕ
  pub payload : List ℕ
  pub signature : ℕ
  pub time : ℕ
  pub transfer : ℕ
  pub discriminator : ℕ

abbrev pub is_anonymous : Call → Bool
is_anonymous c = eqb c.own 0

abbrev pub is_response : Call → Bool
is_response c = eqb c.transfer_type 2

abbrev pub topic_of : Call → Topic
topic_of c = record { transfer_type = c.transfer_type; type = c.type; destination = c.destination }

abbrev pub stream_of : Call → Stream
stream_of c = record { transfer_type = c.transfer_type; type = c.type; source = c.own; destination = c.destination }

-- ── the checks, in their order 14, 11, 8, 9 (RULES 7.3) ──

abbrev pub any : List Bool → Bool
any [] = false
any (b ∷ bs) = b || any bs

-- RULES 7.2: the limits of type ID and destination go by the transfer type; a message has no destination, a service must have one
abbrev pub bad_type : ℕ → ℕ → Bool
bad_type transfer_type type = ltb (pick (eqb transfer_type 0) 65535 255) type

abbrev pub bad_destination : ℕ → ℕ → Bool
bad_destination transfer_type destination = pick (eqb transfer_type 0) (ltb 0 destination) (eqb destination 0 || ltb 127 destination)

-- RULES 7.2, the last four rows: what no anonymous frame can carry
abbrev pub bad_anonymous : ℕ → ℕ → ℕ → ℕ → Bool
bad_anonymous discriminator type size transfer_type = any (ltb 16383 discriminator ∷ ltb 3 type ∷ ltb 7 size ∷ not (eqb transfer_type 0) ∷ [])

-- RULES 7.2: all that 14 refuses. The transfer ID counts for a response alone, since any other comes from the map.
unfoldable pub not_sendable : Call → Bool
not_sendable c =
    any (ltb 127 c.own ∷
    ltb 2 c.transfer_type ∷
    bad_type c.transfer_type c.type ∷
    bad_destination c.transfer_type c.destination ∷
    ltb 31 c.priority ∷
    (is_response c && ltb 31 c.transfer) ∷
    (is_anonymous c && bad_anonymous c.discriminator c.type (length c.payload) c.transfer_type) ∷ [])

-- RULES 7.4: more than 7 bytes need two more for the checksum, so that n of them take (n + 2) / 7 frames, rounded up
unfoldable pub frame_count : ℕ → ℕ
frame_count n = pick (leb n 7) 1 ((n + 8) / 7)

pub data Outcome : Type 0 where
  -- the number of frames (RULES 7.1), and their transfer ID
  done : ℕ → ℕ → Outcome
  unsendable : Outcome
  long : Outcome
  small : Outcome
  full : Outcome

abbrev pub number_of : Outcome → ℕ
number_of (done n t) = 0
number_of unsendable = 14
number_of long = 11
number_of small = 8
number_of full = 9

abbrev pub frames_of : Outcome → ℕ
frames_of (done n t) = n
frames_of unsendable = 0
frames_of long = 0
frames_of small = 0
frames_of full = 0

abbrev pub transfer_of : Outcome → ℕ
transfer_of (done n t) = t
transfer_of unsendable = 0
transfer_of long = 0
transfer_of small = 0
transfer_of full = 0

-- ── the records (RULES 7.5) ──

-- RULES 2.5: priority from bit 24, discriminator from bit 10, type from bit 8, source 0
unfoldable pub anonymous_id : Call → ℕ
anonymous_id c = 16777216 * c.priority + (1024 * c.discriminator + 256 * c.type)

abbrev pub id_for : Call → ℕ
id_for c = pick (is_anonymous c) (anonymous_id c) (id_of (stream_of c) c.priority)

-- RULES 2.6: the ID in 4 bytes, low byte first; the number of data bytes; the data in 8 bytes, filled up with zeros
unfoldable pub record_of : ℕ → List ℕ → List ℕ
record_of id bytes = le_bytes 4 id ++ (length bytes ∷ (bytes ++ replicate (8 - length bytes) 0))

unfoldable pub records_of : ℕ → List (List ℕ) → List ℕ
records_of id [] = []
records_of id (c ∷ more) = record_of id c ++ records_of id more

-- ── the call ──

-- the answer, the map after, and what is written from the front of the output
pub record Step : Type 0 where
  pub answer : Outcome
  pub map : Map
  pub records : List ℕ

-- RULES 7.6: a refusal changes nothing and writes nothing
abbrev pub refuse : Outcome → Map → Step
refuse o m = record { answer = o; map = m; records = [] }

-- under the transfer ID t
unfoldable pub transmit : Call → ℕ → Map → Step
transmit c t m =
    record { answer = done (frame_count (length c.payload)) t; map = m; records = records_of (id_for c) (sent c.signature t c.payload) }

-- RULES 8.3: the entry after a success has the next transfer ID and the call's time, also if that is the earlier one
unfoldable pub send_at : Call → ℕ → ℕ → Map → Step
send_at c i t m = transmit c t (set m i (used (topic_of c) (next t) c.time))

unfoldable pub send_in : Option ℕ → Call → Map → Step
send_in none c m = refuse full m
send_in (some i) c m = send_at c i (drawn (topic_of c) (get_or m i free)) m

-- RULES 7.4, 8.1: a response has the call's transfer ID and no entry, so the map stays as it was
unfoldable pub send_as : Bool → Call → Map → Step
send_as true c m = transmit c c.transfer m
send_as false c m = send_in (slot_for (topic_of c) c.time m) c m

-- RULES 7.3: into `room` bytes of output
unfoldable pub send_step : Call → Map → ℕ → Step
send_step c m room =
    pick (not_sendable c) (refuse unsendable m)
    (pick (ltb payload_max (length c.payload)) (refuse long m)
    (pick (ltb room (frame_record * frame_count (length c.payload))) (refuse small m) (send_as (is_response c) c m)))
