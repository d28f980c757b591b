-- `marks::all` meets its contract.
use Rattle.dsdl_nesting.proofs.Kept.{on, off, done}
use Rattle.bits.specs.Tabulate.{every}
use native.Mathlib.Omega.{arith}
use Prim.Native.Nat.{◌-◌}
use mathlib.Core.Path.{◌≡◌, sym, ap, ◌∙◌}
use Rattle.dsdl_nesting.proofs.marks.all.Goals as goal

pub loop-i-init : goal.loop-i-init
loop-i-init c = let e : c.args.n - 0 ≡ c.args.n = omega arith in ap (every _ 0) e

pub returns-then-not-marks-i : goal.returns-then-not-marks-i
returns-then-not-marks-i c =
    sym (sym c.loop-i.invariant ∙ off _ c.loop-i.i c.args.n (omega arith) c.if-not-marks-i.true)

pub loop-i-preserved : goal.loop-i-preserved
loop-i-preserved c =
    sym (on _ c.loop-i.i c.args.n (omega arith) c.if-not-marks-i.false) ∙ c.loop-i.invariant

pub returns : goal.returns
returns c =
    sym (sym c.loop-i.invariant ∙ done _ c.loop-i.i c.args.n (omega arith))
