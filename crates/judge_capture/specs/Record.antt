-- RULES 19.2: the frames of a capture's records.
use Rattle.std.specs.Prelude.{List, [], ◌∷◌, ◌++◌, ℕ, zero, suc, take, drop, replicate}
use Rattle.bits.specs.Little.{le}
use Rattle.bits.specs.Part.{span}
use Rattle.capture_record.specs.Record.{record_size, stamp_of, size_of}
use Rattle.rules.specs.Frame.{Frame}
use Rattle.rules.specs.Sent.{frame_at}

-- as many data bytes as the record says, up to 255: its own, and zeros past these; what it has more is not looked at
unfoldable pub frame_told : List ℕ → Frame
frame_told r = frame_at (le (span r 8 4)) (take (size_of r) (drop 13 r ++ replicate 247 0)) (stamp_of r)

-- the frames of n records
unfoldable pub frames_told : ℕ → List ℕ → List Frame
frames_told zero b = []
frames_told (suc n) b = frame_told (take record_size b) ∷ frames_told n (drop record_size b)
