-- RULES 18.2: a capture, as a list of frames with their times, and reading one.
use Rattle.std.specs.Prelude.{Bool, ◌&&◌, List, [], ◌∷◌, ◌++◌, ℕ, zero, suc, ◌*◌, ◌-◌, leb, eqb, length, take, drop}
use Rattle.std.proofs.Math.Option.{Option, some}
use Rattle.bits.specs.Little.{le, le_bytes}
use Rattle.bits.specs.Part.{span}
use Rattle.checksum.specs.Crc.{crc_over}
use Rattle.checksum.specs.Crc16.{ccitt}
use Rattle.rules.specs.Frame.{Frame}
use Rattle.capture_record.specs.Record.{record_size, timed, carried}
use Rattle.capture_convert.specs.Log.{joined}

abbrev pub trailer_size : ℕ
trailer_size = 16

-- the checksum of records: CRC-16-CCITT-FALSE with no signature
abbrev pub sum_of : List ℕ → ℕ
sum_of records = crc_over ccitt 0xFFFF records

-- "CT"
abbrev pub mark : List ℕ
mark = 67 ∷ 84 ∷ []

-- ── the capture of a list of frames ──

unfoldable pub records_of : List Frame → List ℕ
records_of [] = []
records_of (f ∷ fs) = timed f ++ records_of fs

-- the distance, the count, the checksum, the mark
unfoldable pub trailer_of : ℕ → ℕ → List ℕ
trailer_of count sum = le_bytes 8 (record_size * count) ++ (le_bytes 4 count ++ (le_bytes 2 sum ++ mark))

unfoldable pub capture_of : List Frame → List ℕ
capture_of fs = records_of fs ++ trailer_of (length fs) (sum_of (records_of fs))

-- ── the trailer of bytes that are read ──

abbrev pub trailer_in : List ℕ → List ℕ
trailer_in c = drop (length c - trailer_size) c

abbrev pub count_in : List ℕ → ℕ
count_in t = le (span t 8 4)

-- the mark and the distance are right
unfoldable pub formed : List ℕ → Bool
formed t = eqb (le (span t 14 2)) (le mark) && eqb (le (span t 0 8)) (record_size * count_in t)

-- as many bytes before the trailer as n records take
abbrev pub records_in : List ℕ → ℕ → List ℕ
records_in c n = span c (length c - trailer_size - record_size * n) (record_size * n)

-- the trailer is right: all but a preface is there, and the checksum is that of the records
unfoldable pub trailed : List ℕ → Bool
trailed c =
    leb trailer_size (length c) && (formed (trailer_in c) && (leb (record_size * count_in (trailer_in c)) (length c - trailer_size)
    && eqb (le (span (trailer_in c) 12 2)) (sum_of (records_in c (count_in (trailer_in c))))))

-- ── the records ──

-- the frames of n records; none: no line can carry one of them
unfoldable pub carried_all : ℕ → List ℕ → Option (List Frame)
carried_all zero b = some []
carried_all (suc n) b = joined (carried (take record_size b)) (carried_all n (drop record_size b))
