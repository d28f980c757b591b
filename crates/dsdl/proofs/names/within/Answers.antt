-- `names::within` meets its contract.
use Rattle.dsdl.proofs.NamePlaces.{from_out, from_empty, to_end}
use native.Mathlib.Omega.{arith}
use Rattle.dsdl.proofs.names.within.Goals as goal

pub returns-then-n-at : goal.returns-then-n-at
returns-then-n-at c = let a = c.args in (from_out a.l.now a.w.at a.w.end c.if-n-at.true, (omega arith, omega arith))

pub returns-then-end-at : goal.returns-then-end-at
returns-then-end-at c = let a = c.args in (from_empty a.l.now a.w.at a.w.end c.if-end-at.true, (omega arith, omega arith))

pub returns-then-n-end : goal.returns-then-n-end
returns-then-n-end c = let a = c.args in (to_end a.l.now a.w.at a.w.end c.if-n-end.true, (omega arith, omega arith))
