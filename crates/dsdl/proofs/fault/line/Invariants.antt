use mathlib.Core.Path.{◌≡◌}
use Prim.Native.Nat.{◌-◌, ◌≤◌}
use lib.ListN.{length}
use Rattle.dsdl.specs.inside.Reading.{Ready}
use Rattle.dsdl.specs.Definition.{fault_in}
use Rattle.dsdl.proofs.Readings.{from}
use Rattle.dsdl.proofs.fault.line.Given as goal

abbrev pub invariant-loop-s : goal.invariant-loop-s
invariant-loop-s l = Ready l.t l.seen l.marks l.at l.n l.s × ((l.at ≤ length l.t) × (from l.t l.seen l.s l.n l.at ≡ fault_in l.t))

abbrev pub decreases-loop-s : goal.decreases-loop-s
decreases-loop-s l = length l.t - l.at
