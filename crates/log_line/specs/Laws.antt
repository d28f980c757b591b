-- RULES 12.2: what reading a line comes to. A line is well formed exactly if it is the line of a frame, and then it says that frame.
use Rattle.std.specs.Prelude.{◌≡◌, List, ℕ, ◌≤◌, length}
use Rattle.std.proofs.Math.Option.{some}
use Rattle.log_line.specs.Line.{line_of, Carried}
use Rattle.log_line.specs.Reading.{said}
use Rattle.rules.specs.Frame.{Frame}

pub record LineLaws : Type 0 where
  pub read_back : (f : Frame) → Carried f → said (line_of f) ≡ some f
  pub written_back : (l : List ℕ) (f : Frame) → said l ≡ some f → line_of f ≡ l
  pub carried : (l : List ℕ) (f : Frame) → said l ≡ some f → Carried f
  -- so a longer line need not be kept whole to be refused
  pub short : (f : Frame) → Carried f → length (line_of f) ≤ 47
