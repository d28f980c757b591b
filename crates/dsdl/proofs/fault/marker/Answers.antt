-- `fault::marker` meets its contract.
use mathlib.Core.Bool.{true}
use Prim.Native.Nat.{ℕ}
use Rattle.dsdl_text.proofs.Choices.{first, next}
use mathlib.Core.Path.{ap, ◌∙◌}
use Rattle.dsdl.proofs.fault.marker.Goals as goal

pub returns-then-s : goal.returns-then-s
returns-then-s c = c.at_fault.ensures ∙ first _ _ _ c.if-s.true

pub returns : goal.returns
returns c = next _ _ _ _ c.if-s.false (ap (λ (f : ℕ). record { fault = f; response = true; directive = 0; attributes = 0; fields = 0; names = 0 }) c.at_end.ensures)
