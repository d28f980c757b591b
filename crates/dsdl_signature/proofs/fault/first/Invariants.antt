use Rattle.dsdl_given.specs.Given.{fault_from}
use Rattle.dsdl_given.specs.inside.Places.{definition_at, given}
use Rattle.bits.specs.Tabulate.{tabulate}
use Prim.Native.Nat.{◌+◌, ◌-◌}
use mathlib.Core.Path.{◌≡◌}
use Rattle.dsdl_signature.proofs.fault.first.Given as goal

abbrev pub invariant-loop-i : goal.invariant-loop-i
invariant-loop-i l = fault_from (l.i + 1) (tabulate (definition_at l.source l.bounds) l.i (l.n - l.i)) ≡ fault_from 1 (given l.source l.bounds l.n)
