-- What the answers on faults say.
use Rattle.std.proofs.Math.Option.{none, some}
use Rattle.std.proofs.Math.Option as definition-option
use Rattle.std.specs.Prelude.{Option, Some, None, Result, Ok, Err, ℕ}
use Rattle.dsdl.specs.Definition.{good, faulty}
use Rattle.dsdl.specs.Definition as definition
use Rattle.dsdl_signature.specs.declared.fault.Fault.{Fault}
use Rattle.dsdl_signature.specs.declared.fault.Line.{Line}

abbrev pub told : Result (Unit {0}) Line → definition.Verdict
told (Ok u) = good
told (Err line) = faulty line.0

abbrev pub placed : Option Fault → definition-option.Option (ℕ × ℕ)
placed None = none
placed (Some f) = some (f.definition, f.line.0)
