-- `names::mark_at` meets its contract.
use mathlib.Core.Path.{sym, ◌∙◌}
use native.Mathlib.Numerals.{add-one}
use native.Mathlib.Omega.{arith}
use Rattle.dsdl.proofs.NamePlaces.{mark_on, mark-done}
use Rattle.dsdl.proofs.names.mark_at.Goals as goal

pub overflow_cast-mark : goal.overflow_cast-mark
overflow_cast-mark c = omega (arith, c.type_inv.x c.loop-c.c-index)

pub overflow_add-mark : goal.overflow_add-mark
overflow_add-mark c = omega (arith, c.type_inv.x c.loop-c.c-index)

pub loop-c-preserved : goal.loop-c-preserved
loop-c-preserved c =
    let x = c.args.x.now in
    (omega arith, rw add-one (sym (mark_on x c.loop-c.mark c.loop-c.c-index (omega arith)) ∙ c.loop-c.invariant.1))

pub returns : goal.returns
returns c =
    (sym (mark-done c.args.x.now c.loop-c.mark c.loop-c.c-index (omega arith)) ∙ c.loop-c.invariant.1, c.loop-c.invariant.0)
