-- `name::is_dotted` meets its contract.
use Rattle.dsdl_text.proofs.Choices.{by}
use Rattle.dsdl_text.proofs.Names.{on, off, done}
use native.Mathlib.Omega.{arith}
use native.Mathlib.Numerals.{add-one}
use mathlib.Core.Path.{sym, ◌∙◌}
use Rattle.dsdl_text.proofs.name.is_dotted.Goals as goal

pub returns-then-not-goes_on : goal.returns-then-not-goes_on
returns-then-not-goes_on c =
    let a = c.args in
    sym (sym c.loop-c.invariant ∙ off c.loop-c.begins a.s.now c.loop-c.c-index (omega arith) (by c.goes_on.ensures c.if-not-goes_on.true))

pub loop-c-preserved : goal.loop-c-preserved
loop-c-preserved c =
    let a = c.args in
    rw add-one (sym (on c.loop-c.begins a.s.now c.loop-c.c-index (omega arith) (by c.goes_on.ensures c.if-not-goes_on.false))
    ∙ c.loop-c.invariant)

pub returns : goal.returns
returns c =
    let a = c.args in
    sym (done c.loop-c.begins a.s.now c.loop-c.c-index (omega arith)) ∙ c.loop-c.invariant
