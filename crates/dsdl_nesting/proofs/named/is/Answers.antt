-- `named::is` meets its contract.
use Rattle.dsdl_nesting.proofs.Names.{full, too_short, elsewhere, inside}
use Rattle.dsdl_text.proofs.Choices.{by}
use Rattle.dsdl_text.proofs.Parts.{rest}
use Rattle.dsdl_text.specs.Text.{same}
use Prim.Native.Nat.{◌-◌}
use lib.ListN.{length}
use mathlib.Core.Path.{ap, ◌∙◌}
use native.Mathlib.Omega.{arith}
use Rattle.dsdl_nesting.proofs.named.is.Goals as goal

pub returns-then-has_dot : goal.returns-then-has_dot
returns-then-has_dot c =
    let a = c.args in
    full a.space.now a.base.now a.name.now c.same.result (by c.has_dot.ensures c.if-has_dot.true) c.same.ensures

pub returns-then-name-n : goal.returns-then-name-n
returns-then-name-n c =
    let a = c.args in
    too_short a.space.now a.base.now a.name.now (by c.has_dot.ensures c.if-has_dot.false) c.if-name-n.true

pub returns-then-not-same : goal.returns-then-not-same
returns-then-not-same c =
    let a = c.args in
    elsewhere a.space.now a.base.now a.name.now (by c.has_dot.ensures c.if-has_dot.false) (length a.space.now - 0) (omega arith) (omega arith)
    (by c.same-2.ensures c.if-not-same.true)

pub returns : goal.returns
returns c =
    let a = c.args in
    inside a.space.now a.base.now a.name.now (by c.has_dot.ensures c.if-has_dot.false) (length a.space.now - 0) (omega arith) (omega arith) c.same-3.result
    (by c.same-2.ensures c.if-not-same.false) (c.same-3.ensures ∙ ap (same a.base.now) (rest (length a.space.now) a.name.now))
