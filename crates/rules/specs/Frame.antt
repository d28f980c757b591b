-- RULES 2.1 to 2.4 and 2.7: the frame, the fields of its ID, the tail byte, the stream; how a frame comes.
use Rattle.std.specs.Prelude.{Bool, true, false, not, ◌&&◌, List, ℕ, ◌-◌, ◌/◌, ◌%◌, eqb, length, get_or, take}
use Rattle.rules.specs.Tests.{pick, bit}

-- the data bytes and the time in microseconds
pub record Frame : Type 0 where
  pub id : ℕ
  pub bytes : List ℕ
  pub time : ℕ

-- RULES 2.7: a frame as it comes: what is on the wire, and the number of the interface that it comes by
pub record Arrival : Type 0 where
  pub frame : Frame
  pub interface : ℕ

-- RULES 2.4. The transfer type is 0 for a message, 1 for a request, 2 for a response (1.7).
pub record Stream : Type 0 where
  pub transfer_type : ℕ
  pub type : ℕ
  pub source : ℕ
  pub destination : ℕ

unfoldable pub same_stream : Stream → Stream → Bool
same_stream a b =
    eqb a.transfer_type b.transfer_type && (eqb a.type b.type && (eqb a.source b.source && eqb a.destination b.destination))

-- ── the ID (RULES 2.2): bit 0 is the lowest ──

-- bit 7
abbrev pub is_service : ℕ → Bool
is_service id = bit id 128

-- bits 0 to 6
abbrev pub source_of : ℕ → ℕ
source_of id = id % 128

-- bits 8 to 14, of a service
abbrev pub destination_of : ℕ → ℕ
destination_of id = id / 256 % 128

-- bits 24 to 28, of an ID below 2^29
abbrev pub priority_of : ℕ → ℕ
priority_of id = id / 16777216

-- RULES 2.4: a service's type is bits 16 to 23 and its request flag bit 15; a message's type is bits 8 to 23, an anonymous one's bits 8 and 9
abbrev pub stream_if : Bool → ℕ → Stream
stream_if true id = record { transfer_type = pick (bit id 32768) 1 2; type = id / 65536 % 256; source = source_of id; destination = destination_of id }
stream_if false id =
    record { transfer_type = 0; type = pick (eqb (source_of id) 0) (id / 256 % 4) (id / 256 % 65536); source = source_of id; destination = 0 }

unfoldable pub stream_of : ℕ → Stream
stream_of id = stream_if (is_service id) id

-- ── a stream ──

-- a request or a response
abbrev pub is_service_stream : Stream → Bool
is_service_stream d = not (eqb d.transfer_type 0)

-- a message without a named source
abbrev pub unnamed : Stream → Bool
unnamed d = eqb d.transfer_type 0 && eqb d.source 0

abbrev pub is_anonymous : ℕ → Bool
is_anonymous id = unnamed (stream_of id)

-- ── the data (RULES 2.3): the last byte is the tail, those before it are payload ──

abbrev pub tail_of : List ℕ → ℕ
tail_of bs = get_or bs (length bs - 1) 0

abbrev pub payload_of : List ℕ → List ℕ
payload_of bs = take (length bs - 1) bs

abbrev pub is_start : ℕ → Bool
is_start tail = bit tail 128

abbrev pub is_end : ℕ → Bool
is_end tail = bit tail 64

abbrev pub toggle_of : ℕ → Bool
toggle_of tail = bit tail 32

abbrev pub transfer_of : ℕ → ℕ
transfer_of tail = tail % 32
