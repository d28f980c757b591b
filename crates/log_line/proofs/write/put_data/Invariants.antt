use mathlib.Core.Path.{◌≡◌}
use lib.ListN.{take}
use Rattle.bits.specs.Part.{splice}
use Rattle.log_line.specs.Line.{data_text}
use Rattle.log_line.proofs.write.put_data.Given as goal

abbrev pub invariant-loop-i : goal.invariant-loop-i
invariant-loop-i l = l.out ≡ splice l.initial.out l.at (data_text (take l.i l.s))
