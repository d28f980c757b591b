-- `fault::judge` meets its contract.
use Rattle.dsdl_signature.proofs.Faults.{bad-name, at-line, fine}
use Rattle.dsdl_text.proofs.Choices.{by}
use Rattle.dsdl_signature.proofs.fault.judge.Goals as goal

pub returns-then-not-is_full_name : goal.returns-then-not-is_full_name
returns-then-not-is_full_name c = bad-name _ _ (by c.is_full_name.ensures c.if-not-is_full_name.true)

pub returns-then-n-gt0 : goal.returns-then-n-gt0
returns-then-n-gt0 c =
    at-line _ _ (by c.is_full_name.ensures c.if-not-is_full_name.false) _ c.line-n.ensures.0 c.if-n-gt0.true

pub returns : goal.returns
returns c =
    fine _ _ (by c.is_full_name.ensures c.if-not-is_full_name.false) _ c.line-n.ensures.0 c.if-n-gt0.false
