-- RULES 12.4, 18.3: a whole log, as a list of frames with their times.
use Rattle.std.specs.Prelude.{List, [], ◌∷◌, ◌++◌, ℕ}
use Rattle.std.proofs.Math.Option.{Option, none, some}
use Rattle.rules.specs.Frame.{Frame}
use Rattle.log_line.specs.Line.{line_of}
use Rattle.log_line.specs.Lines.{lines_of}
use Rattle.log_line.specs.Reading.{said}

-- the line of each frame
unfoldable pub log_of : List Frame → List ℕ
log_of [] = []
log_of (f ∷ fs) = line_of f ++ log_of fs

-- one frame and those after it; none, if any is none
abbrev pub joined : Option Frame → Option (List Frame) → Option (List Frame)
joined none o = none
joined (some f) none = none
joined (some f) (some fs) = some (f ∷ fs)

-- the frames that lines say; none: a line is not well formed
unfoldable pub said_all : List (List ℕ) → Option (List Frame)
said_all [] = some []
said_all (l ∷ ls) = joined (said l) (said_all ls)

abbrev pub frames_of : List ℕ → Option (List Frame)
frames_of log = said_all (lines_of log)
