-- RULES 18.1, 18.4: the record of a frame with its time, and a record that is read.
use Rattle.std.specs.Prelude.{Bool, ◌&&◌, List, ◌++◌, ℕ, ◌+◌, ◌-◌, ◌%◌, ◌^◌, ltb, leb, eqb, get_or, drop}
use Rattle.std.proofs.Math.Option.{Option, none, some}
use Rattle.bits.specs.Little.{le, le_bytes}
use Rattle.bits.specs.Part.{span}
use Rattle.rules.specs.Frame.{Frame}
use Rattle.rules.specs.Sending.{record_of}
use Rattle.rules.specs.SendingLaws.{frame_in}
use Rattle.rules.specs.Tests.{pick}

-- the bytes of a record
abbrev pub record_size : ℕ
record_size = 21

-- the time in 8 bytes, low byte first, and the frame record (RULES 2.6)
unfoldable pub timed : Frame → List ℕ
timed f = le_bytes 8 f.time ++ record_of f.id f.bytes

-- ── a record of 21 bytes, read ──

abbrev pub stamp_of : List ℕ → ℕ
stamp_of r = le (span r 0 8)

-- the number of data bytes, as the record says it
abbrev pub size_of : List ℕ → ℕ
size_of r = get_or r 12 0

-- the frame, read as a receiver reads the first of a sender's records
abbrev pub frame_of : List ℕ → Frame
frame_of r = frame_in (drop 8 r) (stamp_of r) 0

-- RULES 18.4: at most 8 data bytes, zeros past them, whole milliseconds, and seconds of at most 9 digits
unfoldable pub carriable : List ℕ → Bool
carriable r =
    leb (size_of r) 8 && (eqb (le (span r (13 + size_of r) (8 - size_of r))) 0 && (eqb (stamp_of r % 1000) 0 && ltb (stamp_of r) (10 ^ 15)))

-- the frame of a record that a line can carry
unfoldable pub carried : List ℕ → Option Frame
carried r = pick (carriable r) (some (frame_of r)) none
