-- `constant::holds_code` meets its contract.
use Rattle.dsdl_type.proofs.Holding.{code-boolean, code-signed, code-unsigned, code-floating, of-void, of-nested, of-unknown}
use Rattle.dsdl_type.proofs.constant.holds_code.Goals as goal

pub returns-in-Boolean : goal.returns-in-Boolean
returns-in-Boolean c = let a = c.args in code-boolean a.b a.code c.in-Boolean.is

pub returns-in-Signed : goal.returns-in-Signed
returns-in-Signed c = let a = c.args in code-signed a.b a.code c.ones.result _ c.in-Signed.is c.ones.ensures

pub returns-in-Unsigned : goal.returns-in-Unsigned
returns-in-Unsigned c = let a = c.args in code-unsigned a.b a.code c.ones-in-Unsigned.result _ c.in-Unsigned.is c.ones-in-Unsigned.ensures

pub returns-in-Floating : goal.returns-in-Floating
returns-in-Floating c = code-floating c.args.b c.args.code _ c.in-Floating.is c.requires.1

pub returns-in-Void : goal.returns-in-Void
returns-in-Void c = let a = c.args in of-void a.b _ _ c.in-Void.is

pub returns-in-Nested : goal.returns-in-Nested
returns-in-Nested c = let a = c.args in of-nested a.b _ c.in-Nested.is

pub returns-in-Unknown : goal.returns-in-Unknown
returns-in-Unknown c = let a = c.args in of-unknown a.b _ c.in-Unknown.is
