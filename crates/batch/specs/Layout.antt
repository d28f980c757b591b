-- RULES 5.8: the record of a frame that came: its time (8), ID (4), interface (1), data length (1) and data (8), and two bytes that are not used. Numbers are
-- low byte first. src/layout.rt has the same for the code.
use Rattle.std.specs.Prelude.{List, ℕ, ◌+◌, ◌*◌, ltb, get_or}
use Rattle.bits.specs.Little.{le}
use Rattle.bits.specs.Part.{span}
use Rattle.receiver.specs.Receive.{arrival_of}
use Rattle.rules.specs.Frame.{Arrival}
use Rattle.rules.specs.Limits.{frame_data}
use Rattle.rules.specs.Tests.{pick}

-- the bytes of a record
abbrev pub arrival_size : ℕ
arrival_size = 24

abbrev pub id_at : ℕ
id_at = 8

abbrev pub interface_at : ℕ
interface_at = 12

abbrev pub length_at : ℕ
length_at = 13

abbrev pub data_at : ℕ
data_at = 14

-- the bytes of a result word
abbrev pub result_size : ℕ
result_size = 8

-- records that one call uses up, at most
abbrev pub records_max : ℕ
records_max = 65536

-- the data bytes that a record's length stands for: more than eight are one too many, which 3 refuses
abbrev pub data_length : ℕ → ℕ
data_length n = pick (ltb frame_data n) 9 n

-- the frame of record i as it came
unfoldable pub arrival_at : List ℕ → ℕ → Arrival
arrival_at r i =
    arrival_of (le (span r (i * arrival_size + id_at) 4)) (span r (i * arrival_size + data_at) (data_length (get_or r (i * arrival_size + length_at) 0)))
    (get_or r (i * arrival_size + interface_at) 0) (le (span r (i * arrival_size) 8))
