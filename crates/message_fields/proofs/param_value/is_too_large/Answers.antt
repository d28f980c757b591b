-- `param_value::is_too_large` meets its contract.
use native.Mathlib.Omega.{arith}
use Rattle.message_fields.proofs.Values.{not-real, of-real}
use Rattle.message_fields.proofs.param_value.is_too_large.Goals as goal

pub returns-then-fields-i-ne2 : goal.returns-then-fields-i-ne2
returns-then-fields-i-ne2 c = let a = c.args in not-real a.fields.now a.i (λ h. omega arith)

pub returns : goal.returns
returns c = let a = c.args in of-real a.fields.now a.i (omega arith)
