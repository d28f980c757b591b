-- `text::same` meets its contract.
use Rattle.dsdl_text.proofs.Texts.{unlike, like, differs, done}
use native.Mathlib.Omega.{arith}
use native.Mathlib.Numerals.{add-one}
use mathlib.Core.Path.{sym, ◌∙◌}
use Rattle.dsdl_text.proofs.text.same.Goals as goal

pub returns-then-a-b : goal.returns-then-a-b
returns-then-a-b c =
    let a = c.args in
    unlike a.a.now a.b.now c.if-a-b.true

pub returns-then-c-b : goal.returns-then-c-b
returns-then-c-b c =
    let a = c.args in
    sym (sym c.loop-i.invariant.1 ∙ differs a.a.now a.b.now c.loop-i.i (omega arith) (omega arith) c.if-c-b.true)

pub loop-i-preserved : goal.loop-i-preserved
loop-i-preserved c =
    let a = c.args in (
      omega arith,
      rw add-one (sym (like a.a.now a.b.now c.loop-i.i (omega arith) (omega arith) c.if-c-b.false) ∙ c.loop-i.invariant.1),
    )

pub returns : goal.returns
returns c =
    let a = c.args in
    sym (sym c.loop-i.invariant.1 ∙ done a.a.now a.b.now c.loop-i.i (omega arith) (omega arith))
