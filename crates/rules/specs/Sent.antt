-- RULES 7.4: the frames that a payload becomes. The sender makes these, and condition 3 calls these correctly sent (14.10).
use Rattle.std.specs.Prelude.{Bool, true, false, not, List, [], ◌∷◌, ◌++◌, ℕ, zero, suc, ◌+◌, ◌*◌, ◌-◌, ◌/◌, ◌%◌, leb, eqb, length, take, drop}
use Rattle.checksum.specs.Crc16.{checksum}
use Rattle.rules.specs.Frame.{Frame, Arrival, Stream}
use Rattle.rules.specs.Limits.{frame_payload}
use Rattle.rules.specs.Tests.{pick}

abbrev pub flag : Bool → ℕ
flag true = 1
flag false = 0

-- ── the data ──

-- RULES 2.3: start 128, end 64, toggle 32, and the transfer ID
abbrev pub tail_byte : Bool → Bool → Bool → ℕ → ℕ
tail_byte start last toggle t = 128 * flag start + (64 * flag last + (32 * flag toggle + t))

-- payload bytes, and the tail after them
abbrev pub framed : List ℕ → ℕ → List ℕ
framed p tail = p ++ (tail ∷ [])

-- n frames of seven bytes, and one with what is left; toggles turn
unfoldable pub pieces : ℕ → Bool → Bool → ℕ → List ℕ → List (List ℕ)
pieces zero start toggle t bytes = framed bytes (tail_byte start true toggle t) ∷ []
pieces (suc n) start toggle t bytes = framed (take frame_payload bytes) (tail_byte start false toggle t) ∷ pieces n false (not toggle) t (drop frame_payload bytes)

-- the frames that carry bytes: each the next seven until the last, the first a start, toggles 0 1 0
unfoldable pub carrying : ℕ → List ℕ → List (List ℕ)
carrying t bytes = pieces ((length bytes - 1) / frame_payload) true false t bytes

-- RULES 6.3: a checksum in front, low byte first
abbrev pub summed : ℕ → List ℕ → List ℕ
summed c p = c % 256 ∷ c / 256 ∷ p

abbrev pub with_sum : ℕ → List ℕ → List ℕ
with_sum signature p = summed (checksum signature p) p

-- what the frames of a payload carry: up to 7 bytes alone, more with the checksum
unfoldable pub carried : ℕ → List ℕ → List ℕ
carried signature p = pick (leb (length p) frame_payload) p (with_sum signature p)

-- the data of the frames of the payload p under a signature and the transfer ID t
unfoldable pub sent : ℕ → ℕ → List ℕ → List (List ℕ)
sent signature t p = carrying t (carried signature p)

-- ── the ID, for a named source (RULES 2.5) ──

unfoldable pub id_of : Stream → ℕ → ℕ
id_of d priority =
    16777216 * priority
    + pick (eqb d.transfer_type 0) (256 * d.type + d.source)
    (65536 * d.type + (32768 * flag (eqb d.transfer_type 1) + (256 * d.destination + (128 + d.source))))

-- ── the frame ──

abbrev pub frame_at : ℕ → List ℕ → ℕ → Frame
frame_at id bytes time = record { id = id; bytes = bytes; time = time }

-- by interface i
abbrev pub arrival_at : ℕ → ℕ → List ℕ → ℕ → Arrival
arrival_at i id bytes time = record { frame = frame_at id bytes time; interface = i }
