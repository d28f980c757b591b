use Rattle.dsdl_text.specs.Lines.{lines}
use Rattle.dsdl_text.specs.inside.Lines.{end_of}
use Rattle.dsdl_line.specs.Line.{line_of}
use Rattle.dsdl.specs.Definition.{is_service}
use lib.ListN.{length, drop}
use Prim.Native.Nat.{◌-◌, ◌≤◌}
use mathlib.Core.List.{map}
use mathlib.Core.Path.{◌≡◌}
use Rattle.dsdl.proofs.service.is_service.Given as goal

abbrev pub invariant-loop-end : goal.invariant-loop-end
invariant-loop-end l = (l.end ≡ end_of l.text l.at) × ((l.at ≤ l.end) × ((l.end ≤ length l.text) × (is_service (map line_of (lines (drop l.at l.text))) ≡ is_service (map line_of (lines l.text)))))

abbrev pub decreases-loop-end : goal.decreases-loop-end
decreases-loop-end l = length l.text - l.at
