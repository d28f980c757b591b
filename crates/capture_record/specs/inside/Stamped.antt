-- RULES 18.1: a record as the code tells it, and the record of a line that was read.
use Rattle.std.specs.Prelude.{◌≡◌, List, ◌∷◌, ◌++◌, ℕ}
use Rattle.bits.specs.Little.{le, le_bytes}
use Rattle.bits.specs.Part.{span}
use Rattle.log_line.specs.declared.read.Line.{Line}
use Rattle.capture_record.specs.Record.{stamp_of, size_of, carriable}
use Rattle.capture_record.specs.declared.Stamped as told

pub record Read (r : List ℕ) (s : told.Stamped) : Type 0 where
  pub ok : s.ok ≡ carriable r
  pub time : s.time ≡ stamp_of r
  pub id : s.id ≡ le (span r 8 4)
  pub len : s.len ≡ size_of r

abbrev pub record_with : Line → List ℕ
record_with l = le_bytes 8 l.time ++ (le_bytes 4 l.id ++ (l.len ∷ l.bytes))
