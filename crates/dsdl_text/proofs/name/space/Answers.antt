-- `name::space` meets its contract.
use Rattle.dsdl_text.proofs.Names.{dot, other, found}
use native.Mathlib.Omega.{arith}
use native.Mathlib.Numerals.{add-one}
use mathlib.Core.Path.{sym, ◌∙◌}
use Rattle.dsdl_text.proofs.name.space.Goals as goal
use Rattle.dsdl_text.proofs.name.space.Goals.{then-c-eq46, else-c-eq46}

pub loop-i-preserved : goal.loop-i-preserved
loop-i-preserved c =
    let a = c.args in
    elim c.if-c-eq46.branch [
      | then-c-eq46 w ↦ (
        omega arith,
        rw (w.end-is, add-one) (sym (dot a.s.now c.loop-i.i c.loop-i.end (omega arith) w.if-c-eq46.true) ∙ c.loop-i.invariant.1),
      )
      | else-c-eq46 w ↦ (
        omega arith,
        rw (w.end-is, add-one) (sym (other a.s.now c.loop-i.i c.loop-i.end (omega arith) w.if-c-eq46.false) ∙ c.loop-i.invariant.1),
      )
    ]

pub returns : goal.returns
returns c =
    let a = c.args in
    (sym (found a.s.now c.loop-i.i c.loop-i.end (omega arith)) ∙ c.loop-i.invariant.1, omega arith)
