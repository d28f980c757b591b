-- RULES 12.8: the call on one line. The text goes into a buffer from `at` on.
use Rattle.std.specs.Prelude.{List, ℕ, ◌+◌, length}
use Rattle.bits.specs.Part.{splice}
use Rattle.log_line.specs.Reading.{said}
use Rattle.log_replay.specs.Replay.{counted, Reply, reply}
use Rattle.log_replay.specs.declared.Counts.{Counts}
use Rattle.log_replay.specs.declared.Said.{Said}

-- room for the longest text of a line
abbrev pub room : ℕ
room = 1200

pub record Result : Type 0 where
  pub said : Said
  pub state : List ℕ
  pub out : List ℕ

abbrev pub returned : Said → List ℕ → List ℕ → Result
returned s m out = record { said = s; state = m; out = out }

-- the place past the text and the counts, the receiver's state, and the buffer
abbrev pub given : Counts → List ℕ → ℕ → Reply → Result
given c out at r = returned (record { past = at + length r.text; counts = counted c r.handed }) r.state (splice out at r.text)

abbrev pub replayed : List ℕ → List ℕ → Counts → List ℕ → ℕ → Result
replayed m l c out at = given c out at (reply m (said l))
