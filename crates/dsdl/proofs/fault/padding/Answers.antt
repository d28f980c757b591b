-- `fault::padding` meets its contract.
use native.Mathlib.Numerals.{add-one}
use Rattle.dsdl.proofs.fault.padding.Goals as goal

pub returns : goal.returns
returns c = rw (add-one, add-one)
