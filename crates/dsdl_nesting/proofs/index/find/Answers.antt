-- `index::find` meets its contract.
use Rattle.dsdl_nesting.proofs.Kept.{starts, here, later, nowhere}
use Rattle.dsdl_text.specs.Names.{full_name}
use Rattle.dsdl_given.specs.inside.Places.{definition_at}
use Rattle.dsdl_text.proofs.Choices.{by}
use Rattle.dsdl_text.specs.Text.{same}
use native.Mathlib.Omega.{arith}
use mathlib.Core.Path.{ap, ◌∙◌}
use Rattle.dsdl_nesting.proofs.index.find.Goals as goal

pub loop-i-init : goal.loop-i-init
loop-i-init c = starts _ _ _

pub name-requires : goal.name-requires
name-requires c = c.requires.holds c.loop-i.i c.loop-i-test.true

pub returns-then-is : goal.returns-then-is
returns-then-is c =
    let a = c.args in
    let x = full_name a.space.now a.base.now in
    let e = here (definition_at a.source.now a.bounds) x c.loop-i.i a.n (omega arith) (by (c.is.ensures ∙ ap (same x) c.name.ensures) c.if-is.true) in
    (omega (arith, e, c.loop-i.invariant), omega arith)

pub loop-i-preserved : goal.loop-i-preserved
loop-i-preserved c =
    let a = c.args in
    let x = full_name a.space.now a.base.now in
    let e = later (definition_at a.source.now a.bounds) x c.loop-i.i a.n (omega arith) (by (c.is.ensures ∙ ap (same x) c.name.ensures) c.if-is.false) in
    omega (arith, e, c.loop-i.invariant)

pub returns : goal.returns
returns c =
    let a = c.args in
    let e = nowhere (definition_at a.source.now a.bounds) (full_name a.space.now a.base.now) c.loop-i.i a.n (omega arith) in
    (omega (arith, e, c.loop-i.invariant), omega arith)
