use mathlib.Core.Path.{◌≡◌}
use Prim.Native.Nat.{◌-◌, ◌≤◌}
use lib.ListN.{length}
use Rattle.dsdl_text.specs.inside.Lines.{end_of}
use Rattle.dsdl.specs.Definition.{lines_of}
use Rattle.dsdl.specs.Form.{lines_form}
use Rattle.dsdl_form.proofs.Placements.{Left}
use Rattle.dsdl_form.proofs.Forms.{onward}
use Rattle.dsdl_form.proofs.form.lines.Given as goal

abbrev pub invariant-loop-end : goal.invariant-loop-end
invariant-loop-end l =
    (l.end ≡ end_of l.text l.from) × ((l.from ≤ l.end) × ((l.end ≤ length l.text) × Left l.initial.out l.out l.at l.p (lines_form l.space (lines_of l.text)) (onward l.space l.text l.from)))

abbrev pub decreases-loop-end : goal.decreases-loop-end
decreases-loop-end l = length l.text - l.from
